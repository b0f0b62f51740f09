use Rattle.std.proofs.Common.{◌≡◌, ℕ, List, All, take}
use Rattle.items.specs.Items.{Item}
use Rattle.arranging.specs.Parts.{Edited}
use Rattle.arranging.specs.Places.{IsKnown, MayCome}
use Rattle.arranging.proofs.checking.Checker.first_misplaced.Given as goal

abbrev pub invariant-loop-number : goal.invariant-loop-number
invariant-loop-number l = (e : Edited) (source : List ℕ) (old : List Item) → IsKnown e source old l.self
    → e.comings ≡ l.comings → All (MayCome e old) (take l.number l.comings)
