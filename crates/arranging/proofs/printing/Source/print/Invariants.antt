-- What the loop of `print` keeps.
use Rattle.std.proofs.Common.{ℕ, ◌++◌, List, [], take, drop}
use Rattle.items.specs.Items.{Item}
use Rattle.items.specs.Reading.{AreFound}
use Rattle.arranging.specs.Arranged.{Says, IsLayout}
use Rattle.arranging.specs.Parts.{Edited}
use Rattle.arranging.proofs.printing.Source.print.Given as goal

-- with what is still to come this is the text, and what is left is a layout of the items that are left
abbrev pub invariant-loop-placed : goal.invariant-loop-placed
invariant-loop-placed l = record {
  said : (old : List Item) (rest later : List ℕ) → AreFound l.self.text.now 0 l.self.items.now old
      → Says l.self.changes.now l.self.proofs.now old rest (drop l.place old) (drop l.placed-index l.layout) later
      → Says l.self.changes.now l.self.proofs.now old rest old l.layout (l.out.items ++ later);
  left : (e : Edited) (old : List Item) → AreFound l.self.text.now 0 l.self.items.now old → IsLayout e [] old l.layout
      → IsLayout e (take l.place old) (drop l.place old) (drop l.placed-index l.layout);
}
