use Rattle.std.proofs.Common.{◌-◌, ◌≤◌, All, List, length}
use Rattle.items.specs.Items.{Item}
use Rattle.arranging.specs.Parts.{Edited}
use Rattle.arranging.specs.Places.{MayCome, GoesOn}
use Rattle.arranging.proofs.layout.put_at.Given as goal

abbrev pub invariant-loop-next : goal.invariant-loop-next
invariant-loop-next l = record {
  within : l.next ≤ length l.comings;
  layout : (e : Edited) (old : List Item) → All (MayCome e old) l.comings → GoesOn e old l.initial.layout.items l.place
      → GoesOn e old l.layout.items l.place;
}

abbrev pub decreases-loop-next : goal.decreases-loop-next
decreases-loop-next l = length l.comings - l.next
