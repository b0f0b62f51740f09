-- Whether a source has compressed proofs.
use Rattle.std.proofs.Common.{◌≡◌, ◌<◌, ◌≤◌, ◌+◌, ℕ, zero, suc, Bool, true, false, List, [], ◌∷◌, length, inl, inr, refl, ap₂, subst, arith}
use Rattle.std.specs.Prelude.{◌||◌, slice_get}
use Rattle.std.specs.List.{list_any}
use Rattle.std.specs.Option.{option_and_then}
use Rattle.std.proofs.lemmas.Bool.{cases_lt, or_left, or_right}
use Rattle.source.specs.Scopes.{Assertion}
use Rattle.sourceediting.specs.PutIn.{is_compressed_proof}

abbrev pub is_at : List Assertion → ℕ → Bool
is_at xs place = is_compressed_proof (option_and_then (λ (a : Assertion). a.proof) (slice_get xs place))

abbrev is_one : Assertion → Bool
is_one a = is_compressed_proof a.proof

-- one has
pub some_compressed : (xs : List Assertion) (place : ℕ) → is_at xs place ≡ true → list_any (λ a. is_compressed_proof a.proof) xs ≡ true
some_compressed [] place h = absurd cc
some_compressed (x ∷ xs) zero h = or_left (is_one x) (list_any is_one xs) h
some_compressed (x ∷ xs) (suc i) h = or_right (is_one x) (list_any is_one xs) (some_compressed xs i h)

-- those in front of a place don't have one
abbrev pub NoneTo : List Assertion → ℕ → Type 0
NoneTo xs place = (k : ℕ) → k < place → is_at xs k ≡ false

pub none_more : (xs : List Assertion) (place : ℕ) → NoneTo xs place → is_at xs place ≡ false → NoneTo xs (place + 1)
none_more xs place before here = λ k low.
    elim (cases_lt k place) [
      | inl less ↦ before k less
      | inr more ↦
          let same : place ≡ k = omega (arith, low, more) in subst (λ n. is_at xs n ≡ false) same here
    ]

pub none_compressed : (xs : List Assertion) (place : ℕ) → length xs ≤ place → NoneTo xs place
    → list_any (λ a. is_compressed_proof a.proof) xs ≡ false
none_compressed [] place long none = refl
none_compressed (x ∷ xs) place long none =
    let one : is_one x ≡ false = none 0 (omega (arith, long)) in
    let rest = none_compressed xs (length xs) (omega arith) (λ k low. none (suc k) (omega (arith, low, long))) in
    ap₂ (λ a b. a || b) one rest
