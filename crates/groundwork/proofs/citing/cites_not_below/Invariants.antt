use Rattle.cells.specs.Sight.{Looks, ReadsWithin}
use Rattle.groundwork.specs.Footprints.{IsRankOfSteps}
use Rattle.groundwork.proofs.CitedRanks.{AreBelow}
use Rattle.groundwork.proofs.citing.cites_not_below.Given as goal

abbrev pub invariant-loop-slot : goal.invariant-loop-slot
invariant-loop-slot g l =
    Looks (g.C.Cells.sight l.fn.cells) (g.C.Cells.sight l.cells)
    × AreBelow (g.C.Cells.sight l.cells) l.limit l.slot-index l.slot-items
    × ReadsWithin (IsRankOfSteps l.steps) (g.C.Cells.sight l.fn.cells) (g.C.Cells.sight l.cells)
