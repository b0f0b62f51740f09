use Rattle.std.proofs.Common.{◌↔◌, drop}
use Rattle.derivation.specs.Derivation.{HaveTypes}
use Rattle.stepcheck.proofs.node.have_types.Given as goal

abbrev pub invariant-loop-i : goal.invariant-loop-i
invariant-loop-i l = HaveTypes l.prelude (drop l.i l.floats) (drop l.i l.args) ↔ HaveTypes l.prelude l.floats l.args
