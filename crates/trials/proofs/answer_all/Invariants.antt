-- What is open is a library with its own sessions.
use Rattle.std.proofs.Common.{IfSome}
use Rattle.trials.specs.Opened.{IsOpen}
use Rattle.trials.proofs.answer_all.Given as goal

abbrev pub invariant-loop-number : goal.invariant-loop-number
invariant-loop-number g l = IfSome l.opened IsOpen
