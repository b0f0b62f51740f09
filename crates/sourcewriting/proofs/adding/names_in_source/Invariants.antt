-- What the loop of `names_in_source` keeps.
use Rattle.std.proofs.Common.{◌≡◌, map, take}
use Rattle.source.specs.Views.{seen_pairs}
use Rattle.sourcewriting.proofs.adding.names_in_source.Given as goal

-- the names that were gone through
abbrev pub invariant-loop-source : goal.invariant-loop-source
invariant-loop-source l = seen_pairs l.pairs.items ≡ map (λ p. (p.1, p.0.now)) (take l.source-index l.names)
