-- What the loop of `put_reworded` keeps.
use Rattle.std.proofs.Common.{◌≡◌, ◌-◌, ◌≤◌, ◌++◌, None, length}
use Rattle.items.specs.declared.place.WordPlace.{WordPlace}
use Rattle.items.specs.Items.{Item, bytes_of}
use Rattle.items.specs.Reading.{Stands}
use Rattle.items.specs.Machine.{rest_then}
use Rattle.items.proofs.writing.put_reworded.Given as goal

-- what is left of the item reads as it does from the place that was reached
abbrev pub invariant-loop-at : goal.invariant-loop-at
invariant-loop-at l = record {
  within : l.at ≤ length l.text;
  inside : l.end ≤ length l.text;
  put : (x : Item) → Stands l.text l.from x l.end → (start : WordPlace) → start.comment ≡ None → start.part ≡ l.fn.part
      → (left : Item) × Stands l.text l.at left l.end
      × (l.initial.out.items ++ bytes_of (rest_then l.changes start x) ≡ l.out.items ++ bytes_of (rest_then l.changes l.place left));
}

abbrev pub decreases-loop-at : goal.decreases-loop-at
decreases-loop-at l = l.end - l.at
