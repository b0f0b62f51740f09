-- What the loop of `first_kept` keeps.
use Rattle.std.proofs.Common.{◌≡◌, ℕ, List, false, take}
use Rattle.std.specs.List.{list_any}
use Rattle.items.specs.Items.{Item}
use Rattle.items.specs.Reading.{AreFound}
use Rattle.arranging.specs.Parts.{Edited, known_labels}
use Rattle.arranging.specs.Sections.{keeps}
use Rattle.arranging.proofs.sections.first_kept.Given as goal

-- none of those so far keeps its place
abbrev pub invariant-loop-i : goal.invariant-loop-i
invariant-loop-i l =
    (e : Edited) (text : List ℕ) (old : List Item) → e.library ≡ known_labels l.library → e.moving ≡ known_labels l.moving
    → AreFound text 0 l.items old → list_any (keeps e) (take l.i old) ≡ false
