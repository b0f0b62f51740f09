-- What is left to show of `restrictions`.
use Rattle.std.proofs.Common.{◌≡◌, ◌∙◌, rules, ◌+◌, ◌-◌, ◌<◌, [], length, drop, get_or, ap, arith, List, ℕ, Bor}
use Rattle.std.specs.Prelude.{Option, filter_map}
use Rattle.source.specs.Scopes.{Pair}
use Rattle.source.specs.Views.{seen_pairs}
use Rattle.taking.specs.Says.{ascending, pair_at}
use Rattle.sites.specs.Actives.{float_at}
use Rattle.gathering.specs.Pairs.{with_one}
use Rattle.gathering.proofs.Said.{pairs_more}
use Rattle.gathering.proofs.saying.restrictions.Goals as goal

pub loop-place-preserved : goal.loop-place-preserved
loop-place-preserved c =
    let ps = c.args.pairs.now in
    let left : ℕ = c.loop-place.place - 1 in
    let w : Bor (List ℕ) = record { ref_ptr = (0, 0); now = [] } in
    let d : Bor (List ℕ) × Bor (List ℕ) = (w, w) in
    let f : Pair → Option (ℕ × ℕ) = λ p. pair_at (float_at c.args.places.now p.0) (float_at c.args.places.now p.1) in
    let next : c.loop-place.place ≡ left + 1 = omega arith in
    let within : left < length ps = omega arith in
    let put : c.put_pair.new.block.pairs ≡ with_one (f ((get_or ps left d).0.now, (get_or ps left d).1.now)) c.loop-place.block.pairs =
    search rules in
    put
    ∙ ap (with_one (f ((get_or ps left d).0.now, (get_or ps left d).1.now)))
    (c.loop-place.invariant ∙ ap (λ (n : ℕ). ascending (filter_map f (seen_pairs (drop n ps)))) next)
    ∙ pairs_more f ps left d within
