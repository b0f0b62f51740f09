-- The places of what flags don't choose, one after the other.
use Rattle.std.proofs.Common.{◌≡◌, ◌∙◌, ℕ, zero, suc, ◌+◌, ◌<◌, ◌≤◌, Bool, true, false, List, [], ◌∷◌, ◌++◌, length, take, map, get_or, Option, Some, refl, sym, ap}
use Rattle.std.proofs.Common.{arith, add-one, inl, inr}
use Rattle.std.specs.Prelude.{slice_get}
use mathlib.Core.Bool.{not}
use Rattle.std.proofs.lemmas.List.{map-append, append-nil}
use Rattle.std.proofs.lemmas.Option.{slice_get_cases}
use Rattle.source.specs.Flags.{kept_at}
use Rattle.source.specs.Scopes.{Assertion}
use Rattle.giving.specs.Staying.{others}
use Rattle.giving.specs.Places.{ArePlacesBefore}

step : (b : Bool) (x : Assertion) (xs ys : List Assertion) → kept_at b x (xs ++ ys) ≡ kept_at b x xs ++ ys
step true x xs ys = refl
step false x xs ys = refl

-- one more flag with its assertion
pub others_more : (flags : List Bool) (xs : List Assertion) (i : ℕ) (x : Assertion) → i < length flags → slice_get xs i ≡ Some x
    → others (take (suc i) flags) (take (suc i) xs) ≡ others (take i flags) (take i xs) ++ kept_at (not (get_or flags i false)) x []
others_more [] xs i x h e = absurd (omega arith)
others_more (f ∷ fs) [] i x h e = absurd cc
others_more (f ∷ fs) (y ∷ ys) zero x h e = let same : y ≡ x = cc in ap (λ z. kept_at (not f) z []) same
others_more (f ∷ fs) (y ∷ ys) (suc i) x h e =
    ap (kept_at (not f) y) (others_more fs ys i x (omega arith) e)
    ∙ step (not f) y (others (take i fs) (take i ys)) (kept_at (not (get_or fs i false)) x [])

abbrev somes : List Assertion → List (Option Assertion)
somes xs = map (λ x. Some x) xs

pub other_more : (flags : List Bool) (i : ℕ) (ks : List ℕ) → i < length flags → get_or flags i false ≡ false
    → ArePlacesBefore i flags ks → ArePlacesBefore (i + 1) flags (ks ++ i ∷ [])
other_more flags i ks h flag before xs many = elim (slice_get_cases xs i).1 [
  | inl x ↦
      rw add-one
      (map-append (slice_get xs) ks (i ∷ [])
      ∙ ap (λ ys. ys ++ slice_get xs i ∷ []) (before xs many)
      ∙ ap (λ o. somes (others (take i flags) (take i xs)) ++ o ∷ []) x.2
      ∙ sym (map-append (λ (x : Assertion). Some x) (others (take i flags) (take i xs)) (x.0 ∷ []))
      ∙ ap (λ b. somes (others (take i flags) (take i xs) ++ kept_at (not b) x.0 [])) (sym flag)
      ∙ ap somes (sym (others_more flags xs i x.0 h x.2)))
  | inr m ↦ absurd (let past : length xs ≤ i = m.0 in omega (arith, many, h))
]

pub chosen_more : (flags : List Bool) (i : ℕ) (ks : List ℕ) → i < length flags → get_or flags i false ≡ true
    → ArePlacesBefore i flags ks → ArePlacesBefore (i + 1) flags ks
chosen_more flags i ks h flag before xs many = elim (slice_get_cases xs i).1 [
  | inl x ↦
      rw add-one
      (before xs many
      ∙ ap somes (sym (append-nil (others (take i flags) (take i xs))))
      ∙ ap (λ b. somes (others (take i flags) (take i xs) ++ kept_at (not b) x.0 [])) (sym flag)
      ∙ ap somes (sym (others_more flags xs i x.0 h x.2)))
  | inr m ↦ absurd (let past : length xs ≤ i = m.0 in omega (arith, many, h))
]
