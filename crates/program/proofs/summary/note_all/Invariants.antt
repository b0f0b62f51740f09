use Rattle.std.proofs.Common.{take}
use Rattle.outside.specs.Events.{Adds}
use Rattle.program.specs.Summaries.{all_noted}
use Rattle.program.proofs.summary.note_all.Given as goal

abbrev pub invariant-loop-line : goal.invariant-loop-line
invariant-loop-line g l = Adds (g.W.World.done l.initial.world) (g.W.World.done l.world) (all_noted (take l.line-index l.lines))
