use Rattle.std.specs.List.{AllWithin}
use Rattle.mmframes.specs.Substitution.{replacement}
use Rattle.derivation.specs.Derivation.{AreApart}
use Rattle.stepcheck.proofs.pairs.pairs_fit.Given as goal

abbrev pub invariant-loop-pair : goal.invariant-loop-pair
invariant-loop-pair l = AllWithin
    (λ q. AreApart l.thesis.pairs (replacement l.substitution q.0) (replacement l.substitution q.1))
    l.asked 0 l.pair-index
