-- Pairs, put in their places one after the other.
use Rattle.std.proofs.Common.{◌≡◌, ◌∙◌, ℕ, ◌+◌, ◌<◌, List, drop, get_or, length, refl, sym}
use Rattle.std.specs.Prelude.{Option, Some, None, filter_map}
use Rattle.std.specs.List.{cons_option}
use Rattle.std.specs.Borrow.{Bor}
use Rattle.std.proofs.lemmas.List.{at_drop_more}
use Rattle.source.specs.Scopes.{Pair}
use Rattle.source.specs.Views.{seen_pairs}
use Rattle.taking.specs.Says.{ascending}
use Rattle.gathering.specs.Pairs.{with_one}

ascending_one : (o : Option (ℕ × ℕ)) (ps : List (ℕ × ℕ)) → ascending (cons_option o ps) ≡ with_one o (ascending ps)
ascending_one None ps = refl
ascending_one (Some p) ps = refl

-- one more pair, in front of those behind it
pub pairs_more : (f : Pair → Option (ℕ × ℕ)) (ps : List (Bor (List ℕ) × Bor (List ℕ))) (i : ℕ) (d : Bor (List ℕ) × Bor (List ℕ))
    → i < length ps
    → with_one (f ((get_or ps i d).0.now, (get_or ps i d).1.now)) (ascending (filter_map f (seen_pairs (drop (i + 1) ps))))
    ≡ ascending (filter_map f (seen_pairs (drop i ps)))
pairs_more f ps i d h =
    sym (at_drop_more (λ (qs : List (Bor (List ℕ) × Bor (List ℕ))). ascending (filter_map f (seen_pairs qs))) ps i d h
    ∙ ascending_one (f ((get_or ps i d).0.now, (get_or ps i d).1.now)) (filter_map f (seen_pairs (drop (i + 1) ps))))
