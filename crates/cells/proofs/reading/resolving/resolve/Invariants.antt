use Rattle.std.proofs.Common.{take}
use Rattle.cells.specs.Sight.{Looks}
use Rattle.cells.specs.Footprints.{ReadsWhere, IsOfResolving}
use Rattle.cells.specs.Words.{AreFound}
use Rattle.cells.proofs.Resolving.{AreResolved}
use Rattle.cells.proofs.reading.resolving.resolve.Given as goal

abbrev pub invariant-loop-i : goal.invariant-loop-i
invariant-loop-i g l =
    Looks (g.C.Cells.sight l.fn.cells) (g.C.Cells.sight l.cells)
    × AreResolved (g.C.Cells.sight l.cells) (g.C.Cells.sight l.fn.cells).setting.slots (take l.i l.steps) l.kept.items
    × ReadsWhere (IsOfResolving (g.C.Cells.sight l.fn.cells).setting.slots l.steps) (g.C.Cells.sight l.fn.cells) (g.C.Cells.sight l.cells)
    × AreFound (g.C.Cells.sight l.cells) l.over.cited.now l.found.items
