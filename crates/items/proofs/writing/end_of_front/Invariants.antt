-- What the loop of `end_of_front` keeps.
use Rattle.std.proofs.Common.{◌-◌, ◌≤◌, length, codes}
use Rattle.std.specs.Str.{bytes_eq}
use Rattle.items.specs.Reading.{IsPassed}
use Rattle.items.proofs.writing.end_of_front.Given as goal

-- no $= was passed over
abbrev pub invariant-loop-token : goal.invariant-loop-token
invariant-loop-token l = record {
  within : l.at ≤ length l.text;
  so_far : l.from ≤ l.at;
  passed : IsPassed (λ w. bytes_eq w (codes "$=")) l.text l.from l.at;
}

abbrev pub decreases-loop-token : goal.decreases-loop-token
decreases-loop-token l = length l.text - l.at
