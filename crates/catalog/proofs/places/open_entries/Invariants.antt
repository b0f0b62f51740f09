use Rattle.std.proofs.Common.{◌≡◌, [], take}
use Rattle.library.specs.Library.{ranked_from}
use Rattle.catalog.specs.Entries.{standing}
use Rattle.catalog.specs.Places.{IsIndex, HasOnly}
use Rattle.catalog.specs.Trunks.{AreTrunks}
use Rattle.catalog.proofs.places.open_entries.Given as goal

abbrev pub invariant-loop-i : goal.invariant-loop-i
invariant-loop-i l =
    record {
      entries : l.entries.items ≡ standing (take l.i (ranked_from 1 l.assertions));
      indexed : IsIndex l.places l.entries.items;
      only : HasOnly l.places l.entries.items [];
      trunks : AreTrunks l.trunks l.places;
    }
