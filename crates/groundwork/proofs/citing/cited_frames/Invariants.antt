use Rattle.cells.specs.Sight.{Looks, ReadsWithin}
use Rattle.groundwork.specs.Citing.{frames_in}
use Rattle.groundwork.specs.Footprints.{IsStatementOfSteps}
use Rattle.groundwork.proofs.NotedFrames.{FirstAreNoted}
use Rattle.groundwork.proofs.citing.cited_frames.Given as goal

abbrev pub invariant-loop-i : goal.invariant-loop-i
invariant-loop-i g l =
    Looks (g.C.Cells.sight l.fn.cells) (g.C.Cells.sight l.cells)
    × FirstAreNoted (g.C.Cells.sight l.cells) l.prelude l.steps l.kept l.i (frames_in l.by_label)
    × ReadsWithin (IsStatementOfSteps l.kept) (g.C.Cells.sight l.fn.cells) (g.C.Cells.sight l.cells)
