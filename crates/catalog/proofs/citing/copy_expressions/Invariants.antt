use Rattle.std.proofs.Common.{◌≡◌, take}
use Rattle.catalog.proofs.citing.copy_expressions.Given as goal

abbrev pub invariant-loop-expression : goal.invariant-loop-expression
invariant-loop-expression l = l.made.items ≡ take l.expression-index l.expressions
