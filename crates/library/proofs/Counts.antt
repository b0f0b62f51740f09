-- How many items of a list pass a test: none of them, a front, or a part before a back.
use Rattle.std.proofs.Common.{◌≡◌, ℕ, zero, suc, ◌<◌, ◌≤◌, Bool, true, false, cond, List, [], ◌∷◌, length, get_or, refl, inl, inr, arith}
use Rattle.std.specs.List.{list_any, count_by}
use Rattle.std.proofs.lemmas.Bool.{cases_Bool, cond-true, cond-false}
use Rattle.std.proofs.lemmas.List.Sums.{sum_by-cons}
use Rattle.mmsyntax.proofs.Distinct.{or_false, both_false}

-- what an item adds to the count
abbrev pub one_if : {A : Type 0} → (A → Bool) → A → ℕ
one_if p x = cond (p x) 1 0

-- ---- none

-- where none passes, the count is 0
pub none_counted : {A : Type 0} (p : A → Bool) (xs : List A) → list_any p xs ≡ false → count_by p xs ≡ 0
none_counted p [] h = refl
none_counted p (x ∷ xs) h =
    let both = or_false (p x) (list_any p xs) h in
    omega (arith, sum_by-cons (one_if p) x xs, cond-false {A = ℕ} (p x) 1 0 both.0, none_counted p xs both.1)

pub none_from_count : {A : Type 0} (p : A → Bool) (xs : List A) → count_by p xs ≡ 0 → list_any p xs ≡ false
none_from_count p [] h = refl
none_from_count p (x ∷ xs) h =
    let e = sum_by-cons (one_if p) x xs in
    elim (cases_Bool (p x)) [
      | inl y ↦ absurd (omega (arith, cond-true {A = ℕ} (p x) 1 0 y))
      | inr n ↦ both_false (p x) (list_any p xs) n (none_from_count p xs (omega arith))
    ]

-- ---- fronts and backs

-- those that pass are at least as many as a front of which each passes
pub counted_front : {X : Type 0} (p : X → Bool) (xs : List X) (k : ℕ) (d : X) → k < length xs
    → ((j : ℕ) → j ≤ k → p (get_or xs j d) ≡ true) → k < count_by p xs
counted_front p [] k d lt h = absurd (omega arith)
counted_front p (x ∷ xs) zero d lt h = omega (arith, sum_by-cons (one_if p) x xs, cond-true {A = ℕ} (p x) 1 0 (h 0 (omega arith)))
counted_front p (x ∷ xs) (suc k) d lt h =
    let later = counted_front p xs k d (omega arith) (λ j le. h (suc j) (omega arith)) in
    omega (arith, sum_by-cons (one_if p) x xs, cond-true {A = ℕ} (p x) 1 0 (h 0 (omega arith)))

at_most_one : (b : Bool) → cond b 1 0 ≤ 1
at_most_one true = omega arith
at_most_one false = omega arith

-- and at most as many as the places before a back of which none passes
pub counted_back : {X : Type 0} (p : X → Bool) (xs : List X) (k : ℕ) (d : X)
    → ((j : ℕ) → k ≤ j → j < length xs → p (get_or xs j d) ≡ false) → count_by p xs ≤ k
counted_back p [] k d h = omega arith
counted_back p (x ∷ xs) zero d h =
    let later = counted_back p xs 0 d (λ j le lt. h (suc j) (omega arith) (omega arith)) in
    omega (arith, sum_by-cons (one_if p) x xs, cond-false {A = ℕ} (p x) 1 0 (h 0 (omega arith) (omega arith)))
counted_back p (x ∷ xs) (suc k) d h =
    omega (arith, sum_by-cons (one_if p) x xs, at_most_one (p x), counted_back p xs k d (λ j le lt. h (suc j) (omega arith) (omega arith)))
