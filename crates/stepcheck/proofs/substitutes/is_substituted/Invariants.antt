use Rattle.std.proofs.Common.{◌≡◌, ◌↔◌, drop}
use Rattle.mmframes.specs.Substitution.{subst}
use Rattle.stepcheck.proofs.substitutes.is_substituted.Given as goal

abbrev pub invariant-loop-symbol : goal.invariant-loop-symbol
invariant-loop-symbol l =
    (subst l.substitution (drop l.symbol-index l.symbols) ≡ l.rest) ↔
    (subst l.substitution l.symbols ≡ l.target)
