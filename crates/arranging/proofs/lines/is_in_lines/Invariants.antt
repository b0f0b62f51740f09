-- What the loop of `is_in_lines` keeps.
use Rattle.std.proofs.Common.{◌-◌, ◌≤◌, length, IsTrue}
use Rattle.items.specs.Items.{Item}
use Rattle.items.specs.Reading.{Stands}
use Rattle.arranging.specs.Lines.{is_in_lines}
use Rattle.arranging.specs.LinesInside.{AreLaidFrom}
use Rattle.arranging.proofs.lines.is_in_lines.Given as goal

-- an item is laid out if what is left of it is from the place that was reached
abbrev pub invariant-loop-at : goal.invariant-loop-at
invariant-loop-at l = record {
  within : l.at ≤ length l.text;
  inside : l.end ≤ length l.text;
  left : (x : Item) → Stands l.text l.from x l.end
      → (left : Item) × Stands l.text l.at left l.end × (AreLaidFrom l.place left → IsTrue (is_in_lines 79 x));
}

abbrev pub decreases-loop-at : goal.decreases-loop-at
decreases-loop-at l = l.end - l.at
