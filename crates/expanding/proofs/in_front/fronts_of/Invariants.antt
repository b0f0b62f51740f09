-- What the loop of `fronts_of` keeps: what was put so far, and what is put of the tokens that are left.
use Rattle.std.proofs.Common.{◌≡◌, ◌≤◌, ◌-◌, ◌++◌, List, length, drop}
use Rattle.mmtext.specs.Text.{tokens_from}
use Rattle.expanding.specs.Descriptions.{Front, fronts, fronts_behind}
use Rattle.expanding.specs.InFront.{FindsFronts}
use Rattle.expanding.proofs.in_front.fronts_of.Given as goal

abbrev pub invariant-loop-token : goal.invariant-loop-token
invariant-loop-token l = record {
  within : l.at ≤ length l.text;
  put : (done : List Front) × FindsFronts l.fronts done
      × (fronts l.text ≡ done ++ fronts_behind l.text l.opened l.closed (tokens_from l.at (drop l.at l.text)));
}

abbrev pub decreases-loop-token : goal.decreases-loop-token
decreases-loop-token l = length l.text - l.at
