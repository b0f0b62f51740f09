use Rattle.std.proofs.Common.{◌≡◌, ◌↔◌, drop, map}
use Rattle.mmframes.specs.Substitution.{subst}
use Rattle.stepcheck.proofs.substitutes.are_substituted.Given as goal

abbrev pub invariant-loop-i : goal.invariant-loop-i
invariant-loop-i l =
    (map (subst l.substitution) (drop l.i l.hyps) ≡ drop l.i l.targets)
    ↔ (map (subst l.substitution) l.hyps ≡ l.targets)
