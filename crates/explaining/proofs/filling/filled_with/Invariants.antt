-- What the loop of `filled_with` keeps.
use Rattle.std.proofs.Common.{◌≡◌, map}
use Rattle.source.specs.Scopes.{Hypothesis}
use Rattle.source.specs.Views.{seen_hypothesis}
use Rattle.verifying.specs.Citations.{Expression}
use Rattle.explaining.specs.Shown.{seen_expression, seen_filled}
use Rattle.explaining.proofs.filling.filled_with.Given as goal

abbrev pub invariant-loop-hypothesis : goal.invariant-loop-hypothesis
invariant-loop-hypothesis l =
    map seen_filled l.filled.items ≡ map {B = Hypothesis × Expression} (λ p. (seen_hypothesis p.0, seen_expression p.1)) l.yielded
