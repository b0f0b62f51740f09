use Rattle.cells.proofs.Asking.{asks_cell}
use Rattle.cells.proofs.Settings.{small_slot}
use Rattle.cells.proofs.reading.entries.citers.Goals as goal

pub citers_cell-requires : goal.citers_cell-requires
citers_cell-requires g c = small_slot _ (g.met.C.Cells.grounded c.args.cells.now) c.args.slot c.requires

pub returns-clause-reads : goal.returns-clause-reads
returns-clause-reads g c = asks_cell c.citers_cell.ensures c.read.ensures.reads
