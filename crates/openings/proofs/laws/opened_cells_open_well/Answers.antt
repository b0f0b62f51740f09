use Rattle.openings.proofs.Openings.{opened_cells_open_well}
use Rattle.openings.proofs.laws.opened_cells_open_well.Goals as goal

pub returns : goal.returns
returns c = opened_cells_open_well
