-- The first place of an item that passes a test: it, and the fronts of the list before and behind it.
use Rattle.std.proofs.Common.{inl, inr, ◌≡◌, ◌∙◌, ◌<◌, ◌≤◌, ℕ, zero, suc, Bool, true, false, cond, List, [], ◌∷◌, length, take, Option, Some, None, refl, sym, arith}
use Rattle.std.specs.Prelude.{◌||◌, nat_lt, slice_get, find, if◌then◌else◌}
use Rattle.std.specs.List.{list_any, zip}
use Rattle.std.specs.Option.{option_map, option_and_then}
use Rattle.std.proofs.lemmas.Bool.{cases_Bool, ltb-true, ltb-false}
use Rattle.mmsyntax.specs.Tables.{place_of}

-- where no later item passes
pub none_behind : (o : Option ℕ) → option_map (λ n. suc n) o ≡ None → o ≡ None
none_behind None e = refl
none_behind (Some j) e = absurd cc

module _ {A : Type 0} (test : A → Bool) where
  first_of : (k : ℕ) → Some 0 ≡ Some k → 0 ≡ k
  first_of k e = cc

  next_of : (k : ℕ) (o : Option ℕ) → option_map (λ n. suc n) o ≡ Some k → (j : ℕ) × (o ≡ Some j) × (suc j ≡ k)
  next_of k None e = absurd cc
  next_of k (Some j) e = (j, refl, cc)

  mutual_none : (b rest : Bool) (o : Option ℕ) → cond b (Some 0) (option_map (λ n. suc n) o) ≡ None → (o ≡ None → rest ≡ false)
      → b || rest ≡ false
  mutual_none true rest o e h = absurd cc
  mutual_none false rest o e h = h (none_behind o e)

  -- there is none
  pub none_before : (xs : List A) (n : ℕ) → place_of test xs ≡ None → list_any test (take n xs) ≡ false
  none_before [] zero e = refl
  none_before [] (suc n) e = refl
  none_before (x ∷ xs) zero e = refl
  none_before (x ∷ xs) (suc n) e =
      mutual_none (test x) (list_any test (take n xs)) (place_of test xs) e (λ h. none_before xs n h)

  behind_step : (b rest : Bool) (k n : ℕ) (o : Option ℕ) → cond b (Some 0) (option_map (λ n. suc n) o) ≡ Some k → suc n ≤ k
      → ((j : ℕ) → o ≡ Some j → n ≤ j → rest ≡ false) → b || rest ≡ false
  behind_step true rest k n o e le h = let z = first_of k e in absurd (omega (arith, z, le))
  behind_step false rest k n o e le h = let p = next_of k o e in let s = p.2 in h p.0 p.1 (omega (arith, s, le))

  -- the first is behind them
  pub first_behind : (xs : List A) (k n : ℕ) → place_of test xs ≡ Some k → n ≤ k → list_any test (take n xs) ≡ false
  first_behind [] k n e le = absurd cc
  first_behind (x ∷ xs) k zero e le = refl
  first_behind (x ∷ xs) k (suc n) e le =
      behind_step (test x) (list_any test (take n xs)) k n (place_of test xs) e le (λ j h l. first_behind xs j n h l)

  among_step : (b rest : Bool) (k n : ℕ) (o : Option ℕ) → cond b (Some 0) (option_map (λ n. suc n) o) ≡ Some k → k < suc n
      → ((j : ℕ) → o ≡ Some j → j < n → rest ≡ true) → b || rest ≡ true
  among_step true rest k n o e lt h = refl
  among_step false rest k n o e lt h = let p = next_of k o e in let s = p.2 in h p.0 p.1 (omega (arith, s, lt))

  -- the first is among them
  pub first_among : (xs : List A) (k n : ℕ) → place_of test xs ≡ Some k → k < n → list_any test (take n xs) ≡ true
  first_among [] k n e lt = absurd cc
  first_among (x ∷ xs) k zero e lt = absurd (omega (arith, lt))
  first_among (x ∷ xs) k (suc n) e lt =
      among_step (test x) (list_any test (take n xs)) k n (place_of test xs) e lt (λ j h l. first_among xs j n h l)

  -- by where the first is
  pub first_before : (xs : List A) (k n : ℕ) → place_of test xs ≡ Some k → nat_lt k n ≡ list_any test (take n xs)
  first_before xs k n e = elim (cases_Bool (nat_lt k n)) [
    | inl y ↦ y ∙ sym (first_among xs k n e (ltb-true k n y))
    | inr f ↦ f ∙ sym (first_behind xs k n e (ltb-false k n f))
  ]

  hidden_step : (b : Bool) (x : A) (o : Option ℕ) (found : Option A) → cond b (Some 0) (option_map (λ n. suc n) o) ≡ None
      → (o ≡ None → found ≡ None) → cond b (Some x) found ≡ None
  hidden_step true x o found e h = absurd cc
  hidden_step false x o found e h = h (none_behind o e)

  -- where there is none, none is found in a front
  pub none_in_front : (xs : List A) (n : ℕ) → place_of test xs ≡ None → find test (take n xs) ≡ None
  none_in_front xs zero e = refl
  none_in_front [] (suc n) e = refl
  none_in_front (x ∷ xs) (suc n) e =
      hidden_step (test x) x (place_of test xs) (find test (take n xs)) e (λ h. none_in_front xs n h)

  within_step : (b : Bool) (k n : ℕ) (o : Option ℕ) → cond b (Some 0) (option_map (λ n. suc n) o) ≡ Some k
      → ((j : ℕ) → o ≡ Some j → j < n) → k < suc n
  within_step true k n o e h = let z = first_of k e in omega (arith, z)
  within_step false k n o e h = let p = next_of k o e in let s = p.2 in let lt = h p.0 p.1 in omega (arith, s, lt)

  -- it is a place of the list
  pub place_within : (xs : List A) (k : ℕ) → place_of test xs ≡ Some k → k < length xs
  place_within [] k e = absurd cc
  place_within (x ∷ xs) k e = within_step (test x) k (length xs) (place_of test xs) e (λ j p. place_within xs j p)

-- ---- beside a second list

pub got_later : {B : Type 0} (b : B) (bs : List B) (o : Option ℕ)
    → option_and_then (slice_get (b ∷ bs)) (option_map (λ n. suc n) o) ≡ option_and_then (slice_get bs) o
got_later b bs None = refl
got_later b bs (Some i) = refl

got_none : {B : Type 0} (bs : List B) (o : Option ℕ) → length bs ≡ 0 → option_and_then (slice_get bs) o ≡ None
got_none bs None none = refl
got_none [] (Some i) none = refl
got_none (b ∷ bs) (Some i) none = absurd (omega arith)

module _ {A B : Type 0} where
  found_at : (t : Bool) (a : A) (b : B) (bs : List B) (rest : Option (A × B)) (o : Option ℕ)
      → option_map (λ p. p.1) rest ≡ option_and_then (slice_get bs) o
      → option_map (λ p. p.1) (if t then Some (a, b) else rest)
      ≡ option_and_then (slice_get (b ∷ bs)) (if t then Some 0 else option_map (λ n. suc n) o)
  found_at true a b bs rest o same = refl
  found_at false a b bs rest o same = same ∙ sym (got_later b bs o)

  -- the item of the second list at the place of the first that passes in the first list
  pub found_in_zip : (test : A → Bool) (xs : List A) (ys : List B)
      → option_map (λ p. p.1) (find (λ p. test p.0) (zip xs ys)) ≡ option_and_then (slice_get ys) (place_of test xs)
  found_in_zip test [] ys = refl
  found_in_zip test (x ∷ xs) [] = sym (got_none [] (place_of test (x ∷ xs)) refl)
  found_in_zip test (x ∷ xs) (y ∷ ys) =
      found_at (test x) x y ys (find (λ p. test p.0) (zip xs ys)) (place_of test xs) (found_in_zip test xs ys)
