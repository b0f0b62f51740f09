use Rattle.cells.specs.Sight.{Looks}
use Rattle.cells.specs.Footprints.{ReadsWhere, IsAlong}
use Rattle.cells.specs.Lookups.{ForEach}
use Rattle.cells.proofs.Along.{LeadsOn}
use Rattle.cells.proofs.Walks.{IsAhead}
use Rattle.cells.proofs.Clashing.{IsInTheWayIn}
use Rattle.cells.proofs.labels.availability_in.Given as goal

abbrev pub invariant-loop : goal.invariant-loop
invariant-loop g l =
    Looks (g.C.Cells.sight l.fn.cells) (g.C.Cells.sight l.cells)
    × ForEach (g.C.Cells.sight l.cells) (λ st lib. IsAhead l.slots (IsInTheWayIn l.chain l.own l.label) l.word l.counter st)
    × LeadsOn l.slots l.chain l.word (g.C.Cells.sight l.cells)
    × ReadsWhere (IsAlong l.slots l.chain) (g.C.Cells.sight l.fn.cells) (g.C.Cells.sight l.cells)
