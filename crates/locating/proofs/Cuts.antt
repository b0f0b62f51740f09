-- Where a list is cut: at the first item that passes a test, or behind the last one; and the same of what is seen of its items.
use Rattle.std.proofs.Common.{◌≡◌, ◌∙◌, ℕ, ◌+◌, ◌-◌, ◌<◌, ◌≤◌, Bool, true, false, cond, List, [], ◌∷◌, All, Some, None}
use Rattle.std.proofs.Common.{length, take, drop, map, reverse, get_or, refl, sym, ap, ap₂, arith, inl, inr}
use Rattle.std.specs.Prelude.{find}
use Rattle.std.specs.Option.{option_map}
use Rattle.std.specs.List.{position_or_len, suffix_len, prefix_len, before_first, after_first, after_last, list_any}
use Rattle.std.proofs.lemmas.Bool.{cases_Bool, cond-true, cond-false}
use Rattle.std.proofs.lemmas.List.{take_all, drop_all, take_rest, take-map, drop-map, length-map, at_drop_more, at_drop_all}
use Rattle.std.proofs.lemmas.List.Sums.{position_or_len_is, suffix_len_is}
use mathlib.Core.Bool.{not, ◌||◌}
use mathlib.Core.List.{reverse_aux}

-- ---- at the first

module _ {X : Type 0} (p : X → Bool) where
  place_at : (xs : List X) (i : ℕ) (d : X) → i < length xs → p (get_or xs i d) ≡ true
      → ((k : ℕ) → k < i → p (get_or xs k d) ≡ false) → position_or_len p xs ≡ i
  place_at xs i d inside here before =
      position_or_len_is p xs i d (omega arith) before (λ _. here)

  first_place : (xs : List X) (i : ℕ) → i < length xs → ((d : X) → p (get_or xs i d) ≡ true)
      → ((k : ℕ) (d : X) → k < i → p (get_or xs k d) ≡ false) → position_or_len p xs ≡ i
  first_place [] i inside here before = absurd (omega arith)
  first_place (x ∷ xs) i inside here before = place_at (x ∷ xs) i x inside (here x) (λ k less. before k x less)

  no_place : (xs : List X) → All (λ x. p x ≡ false) xs → position_or_len p xs ≡ length xs
  no_place [] none = refl
  no_place (x ∷ xs) none =
      position_or_len_is p (x ∷ xs) (length (x ∷ xs)) x (omega arith) (λ k less. none k x less) (λ less. absurd (omega arith))

  pub cut_before : (xs : List X) (i : ℕ) → i < length xs → ((d : X) → p (get_or xs i d) ≡ true)
      → ((k : ℕ) (d : X) → k < i → p (get_or xs k d) ≡ false) → take i xs ≡ before_first p xs
  cut_before xs i inside here before = ap (λ n. take n xs) (sym (first_place xs i inside here before))

  pub uncut_before : (xs : List X) → All (λ x. p x ≡ false) xs → xs ≡ before_first p xs
  uncut_before xs none =
      let long = no_place xs none in
      sym (take_all (position_or_len p xs) xs (omega arith))

  pub cut_behind : (xs : List X) (i : ℕ) → i < length xs → ((d : X) → p (get_or xs i d) ≡ true)
      → ((k : ℕ) (d : X) → k < i → p (get_or xs k d) ≡ false)
      → take (length xs - (i + 1)) (drop (i + 1) xs) ≡ after_first p xs
  cut_behind xs i inside here before =
      take_rest xs (i + 1) ∙ ap (λ n. drop (n + 1) xs) (sym (first_place xs i inside here before))

  pub nothing_behind : (xs : List X) → All (λ x. p x ≡ false) xs
      → take (length xs - length xs) (drop (length xs) xs) ≡ after_first p xs
  nothing_behind xs none =
      let long = no_place xs none in
      take_rest xs (length xs)
      ∙ (drop_all (length xs) xs (omega arith) ∙ sym (drop_all (position_or_len p xs + 1) xs (omega arith)))

-- ---- behind the last

module _ {X : Type 0} (p : X → Bool) where
  behind_at : (xs : List X) (i : ℕ) (d : X) → i < length xs → p (get_or xs i d) ≡ true
      → ((k : ℕ) → i < k → k < length xs → p (get_or xs k d) ≡ false) → drop (i + 1) xs ≡ after_last p xs
  behind_at xs i d inside here after =
      let many : suffix_len (λ x. not (p x)) xs ≡ length xs - (i + 1) =
      suffix_len_is (λ x. not (p x)) xs (i + 1) d (omega arith) (λ k le lt. ap not (after k (omega arith) lt))
      (λ pos. ap (λ j. not (p (get_or xs j d))) (let e : i + 1 - 1 ≡ i = omega arith in e) ∙ ap not here) in
      let place : i + 1 ≡ length xs - suffix_len (λ x. not (p x)) xs = omega arith in
      ap (λ n. drop n xs) place

  pub cut_last : (xs : List X) (i : ℕ) → i < length xs → ((d : X) → p (get_or xs i d) ≡ true)
      → ((k : ℕ) (d : X) → i < k → k < length xs → p (get_or xs k d) ≡ false)
      → take (length xs - (i + 1)) (drop (i + 1) xs) ≡ after_last p xs
  cut_last [] i inside here after = absurd (omega arith)
  cut_last (x ∷ xs) i inside here after =
      take_rest (x ∷ xs) (i + 1) ∙ behind_at (x ∷ xs) i x inside (here x) (λ k more lt. after k x more lt)

  all_after : (n : ℕ) (xs : List X) → n ≡ length xs → xs ≡ drop (length xs - n) xs
  all_after n xs e = let z : length xs - n ≡ 0 = omega arith in ap (λ k. drop k xs) (sym z)

  pub uncut_last : (xs : List X) → All (λ x. p x ≡ false) xs → xs ≡ after_last p xs
  uncut_last [] none = refl
  uncut_last (x ∷ xs) none =
      all_after (suffix_len (λ y. not (p y)) (x ∷ xs)) (x ∷ xs)
      (suffix_len_is (λ y. not (p y)) (x ∷ xs) 0 x (omega arith) (λ k le lt. ap not (none k x lt)) (λ pos. absurd (omega arith))
      ∙ (let e : length (x ∷ xs) - 0 ≡ length (x ∷ xs) = omega arith in e))

-- ---- a walk that hasn't found one yet

module _ {X : Type 0} (p : X → Bool) (xs : List X) (i : ℕ) (same : find p (drop i xs) ≡ find p xs) where
  pub find_here : (d : X) → i < length xs → p (get_or xs i d) ≡ true → Some (get_or xs i d) ≡ find p xs
  find_here d inside here =
      sym (cond-true (p (get_or xs i d)) (Some (get_or xs i d)) (find p (drop (i + 1) xs)) here)
      ∙ (sym (at_drop_more (find p) xs i d inside) ∙ same)

  pub find_nowhere : length xs ≤ i → None ≡ find p xs
  find_nowhere all = sym (at_drop_all (find p) xs i all) ∙ same

-- ---- what is seen of the items

module _ {X Y : Type 0} (f : X → Y) (p : Y → Bool) where
  abbrev sees : X → Bool
  sees x = p (f x)

  place_seen : (xs : List X) → position_or_len p (map f xs) ≡ position_or_len sees xs
  place_seen [] = refl
  place_seen (x ∷ xs) = ap (λ n. cond (not (sees x)) (1 + n) 0) (place_seen xs)

  pub before_seen : (xs : List X) → before_first p (map f xs) ≡ map f (before_first sees xs)
  before_seen xs = ap (λ n. take n (map f xs)) (place_seen xs) ∙ take-map f (position_or_len sees xs) xs

  pub behind_seen : (xs : List X) → after_first p (map f xs) ≡ map f (after_first sees xs)
  behind_seen xs = ap (λ n. drop (n + 1) (map f xs)) (place_seen xs) ∙ drop-map f (position_or_len sees xs + 1) xs

  fails_seen : (xs : List X) → prefix_len (λ y. not (p y)) (map f xs) ≡ prefix_len (λ x. not (sees x)) xs
  fails_seen [] = refl
  fails_seen (x ∷ xs) = ap (λ n. cond (not (sees x)) (1 + n) 0) (fails_seen xs)

  turned : (xs ys : List X) → reverse_aux (map f xs) (map f ys) ≡ map f (reverse_aux xs ys)
  turned [] ys = refl
  turned (x ∷ xs) ys = turned xs (x ∷ ys)

  pub last_seen : (xs : List X) → after_last p (map f xs) ≡ map f (after_last sees xs)
  last_seen xs =
      ap₂ (λ n k. drop (n - k) (map f xs)) (length-map xs f)
      (ap (prefix_len (λ y. not (p y))) (turned xs []) ∙ fails_seen (reverse xs))
      ∙ drop-map f (length xs - suffix_len (λ x. not (sees x)) xs) xs

  pub any_seen : (xs : List X) → list_any p (map f xs) ≡ list_any sees xs
  any_seen [] = refl
  any_seen (x ∷ xs) = ap (λ b. sees x || b) (any_seen xs)

  pub find_seen : (xs : List X) → find p (map f xs) ≡ option_map f (find sees xs)
  find_seen [] = refl
  find_seen (x ∷ xs) = elim (cases_Bool (sees x)) [
    | inl y ↦ cond-true (sees x) (Some (f x)) (find p (map f xs)) y ∙ sym (ap (option_map f) (cond-true (sees x) (Some x) (find sees xs) y))
    | inr n ↦ cond-false (sees x) (Some (f x)) (find p (map f xs)) n
        ∙ (find_seen xs ∙ sym (ap (option_map f) (cond-false (sees x) (Some x) (find sees xs) n)))
  ]
