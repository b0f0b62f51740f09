use Rattle.std.proofs.Common.{◌≡◌, ◌≤◌, length, take}
use Rattle.catalog.specs.Places.{IsIndex, HasOnly, KeepsLabels}
use Rattle.catalog.specs.Changes.{undone, formers, CanUndo}
use Rattle.catalog.proofs.notes.take_all_back.Given as goal

-- what is left to take back leads to the same start
abbrev pub invariant-loop-left : goal.invariant-loop-left
invariant-loop-left l =
    record {
      within : l.left ≤ length l.notes;
      indexed : IsIndex l.places l.entries;
      fewer : KeepsLabels l.places l.initial.places;
      only : HasOnly l.places l.entries (formers l.notes);
      can : CanUndo l.places (take l.left l.notes) l.entries;
      same : undone (take l.left l.notes) l.entries ≡ undone l.initial.notes l.initial.entries;
    }

abbrev pub decreases-loop-left : goal.decreases-loop-left
decreases-loop-left l = l.left
