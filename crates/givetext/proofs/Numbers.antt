-- The assertions that flags don't choose, from a place on.
use Rattle.std.proofs.Common.{◌≡◌, ◌∙◌, ℕ, zero, suc, ◌+◌, ◌-◌, ◌<◌, ◌≤◌, Bool, true, false, List, [], ◌∷◌, length, drop, get_or}
use Rattle.std.proofs.Common.{Option, Some, None, add-one, refl, ap, arith}
use Rattle.std.specs.Prelude.{slice_get}
use mathlib.Core.Bool.{not}
use Rattle.source.specs.Scopes.{Assertion}
use Rattle.source.specs.Flags.{kept_at}
use Rattle.giving.specs.Staying.{others}

others_suc : (flags : List Bool) (xs : List Assertion) (i : ℕ) (x : Assertion) → i < length flags → slice_get xs i ≡ Some x
    → others (drop i flags) (drop i xs) ≡ kept_at (not (get_or flags i false)) x (others (drop (suc i) flags) (drop (suc i) xs))
others_suc [] xs i x within at = absurd (omega arith)
others_suc (f ∷ fs) [] i x within at = absurd cc
others_suc (f ∷ fs) (y ∷ ys) zero x within at =
    let same : y ≡ x = cc in ap (λ (z : Assertion). kept_at (not f) z (others fs ys)) same
others_suc (f ∷ fs) (y ∷ ys) (suc i) x within at = others_suc fs ys i x (omega arith) at

next_of : (x : Assertion) (xs : List Assertion) (k : ℕ) → (k ≡ 0 → ⊥) → slice_get (x ∷ xs) k ≡ slice_get xs (k - 1)
next_of x xs zero some = absurd (some refl)
next_of x xs (suc k) some = ap (slice_get xs) (let e : k ≡ suc k - 1 = omega arith in e)

none_among : (flags : List Bool) (k : ℕ) → slice_get (others flags []) k ≡ None
none_among [] k = refl
none_among (f ∷ fs) k = refl

none_past : (i k : ℕ) (flags : List Bool) (xs : List Assertion) → length flags ≤ i
    → slice_get (others (drop i flags) (drop i xs)) k ≡ None
none_past zero k [] xs past = refl
none_past zero k (f ∷ fs) xs past = absurd (omega arith)
none_past (suc i) k [] [] past = refl
none_past (suc i) k [] (y ∷ ys) past = refl
none_past (suc i) k (f ∷ fs) [] past = none_among (drop i fs) k
none_past (suc i) k (f ∷ fs) (y ∷ ys) past = none_past i k fs ys (omega arith)

module _ (flags : List Bool) (xs : List Assertion) (i left : ℕ) (found : Option Assertion)
    (so_far : found ≡ slice_get (others (drop i flags) (drop i xs)) left) where
  -- none of them is left
  pub found_none : length flags ≤ i → found ≡ None
  found_none past = so_far ∙ none_past i left flags xs past

  module _ (x : Assertion) (within : i < length flags) (at : slice_get xs i ≡ Some x) where
    next : (b : Bool) → get_or flags i false ≡ b
        → found ≡ slice_get (kept_at (not b) x (others (drop (i + 1) flags) (drop (i + 1) xs))) left
    next b flag =
        rw add-one
        (so_far
        ∙ ap (λ (ys : List Assertion). slice_get ys left) (others_suc flags xs i x within at)
        ∙ ap (λ (c : Bool). slice_get (kept_at (not c) x (others (drop (suc i) flags) (drop (suc i) xs))) left) flag)

    -- it is chosen
    pub found_past : get_or flags i false ≡ true → found ≡ slice_get (others (drop (i + 1) flags) (drop (i + 1) xs)) left
    found_past flag = next true flag

    -- it isn't, and others are to be passed yet
    pub found_later : get_or flags i false ≡ false → (left ≡ 0 → ⊥)
        → found ≡ slice_get (others (drop (i + 1) flags) (drop (i + 1) xs)) (left - 1)
    found_later flag some = next false flag ∙ next_of x (others (drop (i + 1) flags) (drop (i + 1) xs)) left some

    -- it is the one
    pub found_here : get_or flags i false ≡ false → left ≡ 0 → found ≡ Some x
    found_here flag none =
        next false flag ∙ ap (slice_get (x ∷ others (drop (i + 1) flags) (drop (i + 1) xs))) none
