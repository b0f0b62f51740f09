use Rattle.std.proofs.Common.{take, []}
use Rattle.derivation.proofs.Forests.{Runs}
use Rattle.stepcheck.proofs.checking.check_steps.Given as goal

abbrev pub invariant-loop-done : goal.invariant-loop-done
invariant-loop-done g l = Runs (g.F.Frames.frames l.frames) l.prelude l.assertion [] (take l.done l.assertion.proof) l.stack
