-- Where the substitute of a variable stands: at the first place that has the variable.
use Rattle.std.proofs.Common.{◌≡◌, ◌≢◌, ℕ, zero, suc, ◌<◌, List, [], ◌∷◌, Option, None, Some, length, get_or}
use Rattle.std.proofs.Common.{map, refl, arith}
use Rattle.std.proofs.lemmas.Bool.{eq-eqb, ne_eqb}
use Rattle.mmsyntax.specs.declared.statement.Symbol.{Symbol}
use Rattle.mmsyntax.specs.declared.statement.Symbol.TheVariants.{Var}
use Rattle.mmframes.specs.Substitution.{replacement}
use Rattle.mmframes.specs.Places.{IsFirstPlace, IsPlaceOf}

none-here : (s : List (ℕ × List Symbol)) (v : ℕ) → ((k : ℕ) → k < length (map (λ p. p.0) s) → get_or (map (λ p. p.0) s) k 0 ≢ v)
    → replacement s v ≡ Var v ∷ []
none-here [] v h = refl
none-here (p ∷ ps) v h = rw (ne_eqb p.0 v (h 0 (omega arith))) (none-here ps v (λ k lt. h (suc k) (omega arith)))

first-here : (s : List (ℕ × List Symbol)) (v i : ℕ) → i < length (map (λ p. p.0) s) → get_or (map (λ p. p.0) s) i 0 ≡ v
    → ((k : ℕ) → k < i → get_or (map (λ p. p.0) s) k 0 ≢ v)
    → (i < length s) × ((d : ℕ × List Symbol) → replacement s v ≡ (get_or s i d).1)
first-here [] v i lt at before = absurd (omega arith)
first-here (p ∷ ps) v zero lt at before = (omega arith, λ d. rw (eq-eqb p.0 v at) refl)
first-here (p ∷ ps) v (suc i) lt at before =
    let later = first-here ps v i (omega arith) at (λ k lower. before (suc k) (omega arith)) in
    (omega (arith, later.0), λ d. rw (ne_eqb p.0 v (before 0 (omega arith))) (later.1 d))

-- the first place among the variables is that of the substitute
pub place-of : (s : List (ℕ × List Symbol)) (v : ℕ) (r : Option ℕ) → IsFirstPlace (map (λ p. p.0) s) v r → IsPlaceOf s v r
place-of s v None h = none-here s v h
place-of s v (Some i) h = first-here s v i h.0 h.1 h.2
