-- Facts on lists that are read by `slice_get`, and on tests and numbers.
use Rattle.std.proofs.Common.{Bool, List, None, Option, Some, [], ap, arith, eqb-true, false, inl, inr, length, nat_le, nat_lt, refl}
use Rattle.std.proofs.Common.{slice_get, slice_set, suc, true, zero, ℕ, ◌&&◌, ◌*◌, ◌++◌, ◌<◌, ◌==◌, ◌||◌, ◌∷◌, ◌≡◌, ◌≢◌, ◌≤◌, ◌⊎◌}
use Rattle.std.proofs.lemmas.Bool.Decides.{nat_tests}

pub get-set_same : {A : Type 0} (xs : List A) (i : ℕ) (x y : A) → slice_get xs i ≡ Some y → slice_get (slice_set xs i x) i ≡ Some x
get-set_same [] i x y h = cc
get-set_same (z ∷ xs) zero x y h = refl
get-set_same (z ∷ xs) (suc i) x y h = get-set_same xs i x y h

pub get-set_other : {A : Type 0} (xs : List A) (i j : ℕ) (x : A) → j ≢ i → slice_get (slice_set xs i x) j ≡ slice_get xs j
get-set_other [] i j x n = refl
get-set_other (z ∷ xs) zero zero x n = absurd (n refl)
get-set_other (z ∷ xs) zero (suc j) x n = refl
get-set_other (z ∷ xs) (suc i) zero x n = refl
get-set_other (z ∷ xs) (suc i) (suc j) x n = get-set_other xs i j x (λ e. n (ap suc e))

-- what is read after a write is the new element, or an old one elsewhere
pub get-set_cases : {A : Type 0} (xs : List A) (i j : ℕ) (x y : A) → slice_get (slice_set xs i x) j ≡ Some y
    → ((j ≡ i) × (y ≡ x)) ⊎ ((j ≢ i) × (slice_get xs j ≡ Some y))
get-set_cases [] i j x y h = cc
get-set_cases (z ∷ xs) zero zero x y h = inl (refl, cc)
get-set_cases (z ∷ xs) zero (suc j) x y h = inr (omega arith, h)
get-set_cases (z ∷ xs) (suc i) zero x y h = inr (omega arith, h)
get-set_cases (z ∷ xs) (suc i) (suc j) x y h = elim (get-set_cases xs i j x y h) [
  | inl p ↦ inl (ap suc p.0, p.1)
  | inr p ↦ inr (λ e. p.0 (omega arith), p.1)
]

pub length-slice_set : {A : Type 0} (xs : List A) (i : ℕ) (x : A) → length (slice_set xs i x) ≡ length xs
length-slice_set [] i x = refl
length-slice_set (z ∷ xs) zero x = refl
length-slice_set (z ∷ xs) (suc i) x = ap suc (length-slice_set xs i x)

pub get_within : {A : Type 0} (xs : List A) (i : ℕ) (x : A) → slice_get xs i ≡ Some x → i < length xs
get_within [] i x h = cc
get_within (z ∷ xs) zero x h = omega arith
get_within (z ∷ xs) (suc i) x h = let r : i < length xs = get_within xs i x h in omega arith

pub get-append_left : {A : Type 0} (xs ys : List A) (i : ℕ) → i < length xs → slice_get (xs ++ ys) i ≡ slice_get xs i
get-append_left [] ys i h = absurd (omega arith)
get-append_left (z ∷ xs) ys zero h = refl
get-append_left (z ∷ xs) ys (suc i) h = get-append_left xs ys i (omega arith)

pub get-append_seam : {A : Type 0} (xs : List A) (y : A) → slice_get (xs ++ y ∷ []) (length xs) ≡ Some y
get-append_seam [] y = refl
get-append_seam (z ∷ xs) y = get-append_seam xs y

pub length-append_one : {A : Type 0} (xs : List A) (y : A) → length (xs ++ y ∷ []) ≡ suc (length xs)
length-append_one [] y = refl
length-append_one (z ∷ xs) y = ap suc (length-append_one xs y)

-- an element of the longer list is one of before, or the new one
pub get-append_cases : {A : Type 0} (xs : List A) (y : A) (i : ℕ)
    → (slice_get (xs ++ y ∷ []) i ≡ slice_get xs i) ⊎ ((i ≡ length xs) × (slice_get (xs ++ y ∷ []) i ≡ Some y))
get-append_cases [] y zero = inr (refl, refl)
get-append_cases [] y (suc i) = inl refl
get-append_cases (x ∷ xs) y zero = inl refl
get-append_cases (x ∷ xs) y (suc i) = elim (get-append_cases xs y i) [ inl p ↦ inl p | inr p ↦ inr (ap suc p.0, p.1) ]

-- ---- tests

pub equal_numbers : (a b : ℕ) → (a == b) ≡ true → a ≡ b
equal_numbers a b h = eqb-true a b h

pub other_numbers : (a b : ℕ) → (a == b) ≡ false → a ≢ b
other_numbers a b h = grind (arith, nat_tests)

pub less_numbers : (a b : ℕ) → nat_lt a b ≡ true → a < b
less_numbers a b h = grind (arith, nat_tests)

pub not_less_numbers : (a b : ℕ) → nat_lt a b ≡ false → b ≤ a
not_less_numbers a b h = grind (arith, nat_tests)

pub at_most_numbers : (a b : ℕ) → nat_le a b ≡ true → a ≤ b
at_most_numbers a b h = grind (arith, nat_tests)

pub both_left : (a b : Bool) → (a && b) ≡ true → a ≡ true
both_left true b h = refl
both_left false b h = h

pub both_right : (a b : Bool) → (a && b) ≡ true → b ≡ true
both_right true b h = h
both_right false b h = cc

pub one_of : (a b : Bool) → (a || b) ≡ true → (a ≡ true) ⊎ (b ≡ true)
one_of true b h = inl refl
one_of false b h = inr h

pub known : (b : Bool) → (b ≡ true) ⊎ (b ≡ false)
known true = inl refl
known false = inr refl

-- an odd number isn't an even one
pub odd_even : (a b : ℕ) → suc (2 * a) ≡ 2 * b → ⊥
odd_even a b e = omega arith

pub same_or_not : (i j : ℕ) → (j ≡ i) ⊎ (j ≢ i)
same_or_not i j = grind arith

pub option_known : {A : Type 0} (x : Option A) → ((a : A) × (x ≡ Some a)) ⊎ (x ≡ None)
option_known None = inr refl
option_known (Some a) = inl (a, refl)
