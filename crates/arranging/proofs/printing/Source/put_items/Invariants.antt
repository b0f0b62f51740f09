-- What the loop of `put_items` keeps.
use Rattle.std.proofs.Common.{◌≤◌, ◌+◌, List, length, drop, take}
use Rattle.items.specs.Items.{Item}
use Rattle.items.specs.Machine.{IsPut}
use Rattle.items.specs.Reading.{AreFound, IsBehind}
use Rattle.arranging.specs.Arranged.{ReadThen}
use Rattle.arranging.proofs.printing.Source.put_items.Given as goal

-- the items so far were put
abbrev pub invariant-loop-item : goal.invariant-loop-item
invariant-loop-item l = record {
  within : l.at ≤ length l.self.text.now;
  so_far :
      (old : List Item) → AreFound l.self.text.now 0 l.self.items.now old
      → AreFound l.self.text.now l.at (drop l.item-index (drop l.first l.self.items.now)) (drop l.item-index (drop l.first old))
      × IsPut l.fn.out.items l.out.items (ReadThen l.self.changes.now l.self.proofs.now (take l.item-index (drop l.first old)));
  behind :
      (old : List Item) → AreFound l.self.text.now 0 l.self.items.now old
      → IsBehind l.self.text.now 0 l.self.items.now old (l.first + l.item-index) l.at;
}
