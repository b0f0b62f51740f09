use Rattle.std.proofs.Common.{take}
use Rattle.outside.specs.Events.{Adds}
use Rattle.program.specs.Endings.{all_said}
use Rattle.program.proofs.ending.say_all.Given as goal

abbrev pub invariant-loop-line : goal.invariant-loop-line
invariant-loop-line g l = Adds (g.W.World.done l.initial.world) (g.W.World.done l.world) (all_said (take l.line-index l.lines))
