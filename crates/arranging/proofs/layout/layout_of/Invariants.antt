use Rattle.std.proofs.Common.{◌≤◌, [], All, List, length}
use Rattle.leaving.specs.Leaving.{AreGoing}
use Rattle.items.specs.Items.{Item}
use Rattle.arranging.specs.Parts.{Edited, parts}
use Rattle.arranging.specs.Places.{MayCome, GoesOn}
use Rattle.arranging.proofs.Laid.{GoesFrom}
use Rattle.arranging.proofs.layout.layout_of.Given as goal

abbrev pub invariant-loop-place : goal.invariant-loop-place
invariant-loop-place l = record {
  within : l.next ≤ length l.comings;
  layout : (e : Edited) (old : List Item) → AreGoing [] (parts e old) l.goes → All (MayCome e old) l.comings
      → GoesFrom e old l.goes l.place × GoesOn e old l.layout.items l.place;
}
