use Rattle.catalog.specs.Places.{IsIndex, HasOnly}
use Rattle.catalog.specs.Trunks.{AreTrunks}
use Rattle.catalog.specs.Changes.{formers}
use Rattle.catalog.proofs.notes.drop_notes.Given as goal

abbrev pub invariant-loop-note : goal.invariant-loop-note
invariant-loop-note l =
    record {
      indexed : IsIndex l.places l.entries;
      only : HasOnly l.places l.entries (formers l.notes.items);
      trunks : AreTrunks l.trunks l.places;
    }

abbrev pub decreases-loop-note : goal.decreases-loop-note
decreases-loop-note l = goal.left-loop-note l
