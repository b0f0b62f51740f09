-- What the loop of `restrictions` keeps: the pairs from a place on are in their places.
use Rattle.std.proofs.Common.{◌≡◌, drop}
use Rattle.std.specs.Prelude.{filter_map}
use Rattle.source.specs.Views.{seen_pairs}
use Rattle.taking.specs.Says.{ascending, pair_at}
use Rattle.sites.specs.Actives.{float_at}
use Rattle.gathering.proofs.saying.restrictions.Given as goal

abbrev pub invariant-loop-place : goal.invariant-loop-place
invariant-loop-place l =
    l.block.pairs
    ≡ ascending (filter_map (λ p. pair_at (float_at l.places p.0) (float_at l.places p.1)) (seen_pairs (drop l.place l.pairs)))
