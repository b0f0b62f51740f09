use Rattle.std.proofs.Common.{◌↔◌, ℕ, take, Contains}
use Rattle.mmsyntax.specs.declared.statement.Symbol.TheVariants.{Var}
use Rattle.stepcheck.proofs.pairs.variables_of.Given as goal

abbrev pub invariant-loop-symbol : goal.invariant-loop-symbol
invariant-loop-symbol l = (u : ℕ) → Contains l.found.items u ↔ Contains (take l.symbol-index l.symbols) (Var u)
