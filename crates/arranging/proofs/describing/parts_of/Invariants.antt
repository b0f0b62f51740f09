-- What the loop of `parts_of` keeps.
use Rattle.std.proofs.Common.{◌≡◌, ◌≤◌, List, length, map, drop, take}
use Rattle.items.specs.Items.{Item}
use Rattle.items.specs.Reading.{AreFound}
use Rattle.arranging.specs.Parts.{part_of, known_labels}
use Rattle.arranging.proofs.describing.parts_of.Given as goal

-- the parts so far are those of the items so far
abbrev pub invariant-loop-item : goal.invariant-loop-item
invariant-loop-item l = record {
  within : l.at ≤ length l.source;
  so_far :
      (old : List Item) → AreFound l.source 0 l.items old
      → AreFound l.source l.at (drop l.item-index l.items) (drop l.item-index old)
      × (l.parts.items ≡ map (part_of (known_labels l.gone) (known_labels l.moving)) (take l.item-index old));
}
