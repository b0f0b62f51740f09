use Rattle.cells.specs.Sight.{Looks}
use Rattle.cells.specs.Footprints.{ReadsWhere, IsOfRound}
use Rattle.cells.proofs.Along.{HoldNames}
use Rattle.cells.proofs.Walks.{AreFull}
use Rattle.cells.proofs.finding.free_slot.Given as goal

abbrev pub invariant-loop-steps : goal.invariant-loop-steps
invariant-loop-steps g l =
    Looks (g.C.Cells.sight l.fn.cells) (g.C.Cells.sight l.cells)
    × AreFull (g.C.Cells.sight l.cells) l.slots l.from l.steps
    × HoldNames l.slots l.from l.steps (g.C.Cells.sight l.cells)
    × ReadsWhere (IsOfRound l.slots l.from) (g.C.Cells.sight l.fn.cells) (g.C.Cells.sight l.cells)
