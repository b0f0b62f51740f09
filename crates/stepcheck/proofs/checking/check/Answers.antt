use Rattle.derivation.proofs.Exact.{proved-answered, fault-answered}
use Rattle.stepcheck.proofs.checking.check.Goals as goal

pub returns-in-Theorem-clause-proved : goal.returns-in-Theorem-clause-proved
returns-in-Theorem-clause-proved g c = λ checks.
    proved-answered (g.F.Frames.frames c.args.frames.now) c.args.prelude.now c.args.assertion.now c.check_steps.result
    c.check_steps.ensures.fault (checks c.in-Theorem.is)

pub returns-in-Theorem-clause-refused : goal.returns-in-Theorem-clause-refused
returns-in-Theorem-clause-refused g c = λ fault h.
    fault-answered (g.F.Frames.frames c.args.frames.now) c.args.prelude.now c.args.assertion.now c.check_steps.result
    c.check_steps.ensures.yes c.check_steps.ensures.fault fault h.1
