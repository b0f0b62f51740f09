-- What the loop of `first_broken` keeps.
use Rattle.std.proofs.Common.{◌≡◌, map, drop}
use Rattle.std.specs.Prelude.{find, ◌&&◌}
use mathlib.Core.Bool.{not}
use Rattle.source.specs.Scopes.{is_mandatory_variable}
use Rattle.source.specs.Views.{seen_pairs}
use Rattle.verifying.specs.Citations.{are_apart, replacement}
use Rattle.explaining.specs.Shown.{seen_assertion, seen_filled, substitution_by}
use Rattle.explaining.proofs.apart.first_broken.Given as goal

abbrev pub invariant-loop-pair : goal.invariant-loop-pair
invariant-loop-pair l =
    let x = seen_assertion l.theorem in
    let c = seen_assertion l.cited in
    let s = substitution_by (map seen_filled l.filled) in
    find (λ p. (is_mandatory_variable c.active c.statement p.0 && is_mandatory_variable c.active c.statement p.1)
    && not (are_apart x (replacement s p.0) (replacement s p.1))) (seen_pairs (drop l.pair-index l.pairs))
    ≡ find (λ p. (is_mandatory_variable c.active c.statement p.0 && is_mandatory_variable c.active c.statement p.1)
    && not (are_apart x (replacement s p.0) (replacement s p.1))) (seen_pairs l.pairs)
