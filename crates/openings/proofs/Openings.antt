-- What plain cells hold that a database opened opens words well.
use Rattle.std.proofs.Common.{◌≡◌, ◌≤◌, length, ap, ◌∙◌, arith}
use Rattle.library.specs.Library.{opening}
use Rattle.cells.specs.State.{most_words}
use Rattle.cells.specs.Slots.{cell_count}
use Rattle.plaincells.specs.Plain.{ranges_in}
use Rattle.plaincells.proofs.Naming.{shown_names}
use Rattle.plaincells.proofs.Stores.{stored_in}
use Rattle.openings.specs.Laws.{OpenedCellsOpenWell}
use Rattle.openings.proofs.Naming.{named_shows}

pub opened_cells_open_well : OpenedCellsOpenWell
opened_cells_open_well g room made verifies opens =
    let long : length made.values.items ≡ cell_count g.slots = made.long ∙ ap cell_count opens.slots_are in
    let stored = made.stored in
    let roomy = made.roomy in
    let short : length made.store.items ≤ most_words = omega (arith, stored, roomy) in
    let values = made.values.items in
    let store = made.store.items in
    let places = made.ranges.items in
    let lib = opening g.database.value in
    let shows =
    named_shows g.slots (length store) values store (ranges_in store places) short (stored_in store places) long lib opens.shows.0 in
    (record { count = long; shows = shows; verifies = verifies }, shown_names g.slots values _ lib shows)
