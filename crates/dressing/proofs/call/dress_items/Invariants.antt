-- What the loop of `dress_items` keeps.
use Rattle.std.proofs.Common.{◌-◌, ◌≤◌, false, length}
use Rattle.items.specs.Divided.{IsDividedFrom}
use Rattle.dressing.proofs.Dressed.{AreDressed}
use Rattle.dressing.proofs.call.dress_items.Given as goal

-- the items so far were put, and what is left is items
abbrev pub invariant-loop-item : goal.invariant-loop-item
invariant-loop-item l = record {
  within : l.at ≤ length l.source;
  put : AreDressed l.dressing.proofs l.dressing.labels l.dressing.descriptions l.source l.at l.out.items;
  divided : IsDividedFrom false l.source l.at;
}

abbrev pub decreases-loop-item : goal.decreases-loop-item
decreases-loop-item l = length l.source - l.at
