-- What the loop of `next_said` keeps.
use Rattle.std.proofs.Common.{◌≡◌, ◌-◌, ◌≤◌, false, length}
use Rattle.items.specs.Items.{Item, words, outside}
use Rattle.items.specs.Reading.{Stands}
use Rattle.arranging.proofs.sections.next_said.Given as goal

-- nothing was said so far
abbrev pub invariant-loop-at : goal.invariant-loop-at
invariant-loop-at l = record {
  within : l.at ≤ length l.text;
  so_far : l.from ≤ l.at;
  left :
      (x : Item) → Stands l.text l.from x l.end
      → (y : Item) × Stands l.text l.at y l.end × (outside false (words x) ≡ outside l.is_inside (words y));
}

abbrev pub decreases-loop-at : goal.decreases-loop-at
decreases-loop-at l = length l.text - l.at
