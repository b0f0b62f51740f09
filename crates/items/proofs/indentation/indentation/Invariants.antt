-- What the loop of `indentation` keeps.
use Rattle.std.proofs.Common.{◌≡◌, ◌-◌, ◌≤◌, length}
use Rattle.items.specs.Items.{Item}
use Rattle.items.specs.Reading.{Stands}
use Rattle.items.specs.Indentations.{indentation_of}
use Rattle.items.specs.Walking.{found_from}
use Rattle.items.proofs.indentation.indentation.Given as goal

-- what is left of the item has its indentation
abbrev pub invariant-loop-at : goal.invariant-loop-at
invariant-loop-at l = record {
  within : l.at ≤ length l.text;
  inside : l.end ≤ length l.text;
  left : (x : Item) → Stands l.text l.from x l.end
      → (left : Item) × Stands l.text l.at left l.end × (indentation_of x ≡ found_from l.walk left);
}

abbrev pub decreases-loop-at : goal.decreases-loop-at
decreases-loop-at l = l.end - l.at
