-- What the loop of `expressions` keeps.
use Rattle.std.proofs.Common.{◌≡◌, map}
use Rattle.mmunits.proofs.block.expressions.Given as goal

abbrev pub invariant-loop-hypothesis : goal.invariant-loop-hypothesis
invariant-loop-hypothesis l = l.out.items ≡ map (λ h. h.expression) l.yielded
