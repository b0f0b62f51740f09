-- Lists of numbers with the same counts are permutations of one another; so filters of permutations are.
use Rattle.std.proofs.Common.{◌≡◌, ℕ, suc, ◌<◌, ◌≤◌, Bool, true, false, cond, List, [], ◌∷◌, length, map, refl, sym, ap, subst, ◌∙◌}
use Rattle.std.proofs.Common.{inl, inr, arith, nat_eq, get_or}
use Rattle.std.specs.Prelude.{filter, IsPermutation}
use Rattle.std.specs.List.{sum_by, list_any, remove}
use Rattle.std.proofs.lemmas.Bool.{cases_Bool, cond-true, cond-false, eqb-true, eq-eqb}
use Rattle.std.proofs.lemmas.List.Sums.{sum_by-cons, sum_by-remove, sum_by-le-sum_by}
use Rattle.std.proofs.lemmas.List.Sorted.{IsPermutation-refl, IsPermutation-cons, IsPermutation-sym, IsPermutation-trans, IsPermutation-remove, sum_by-IsPermutation}
use Rattle.mmsyntax.specs.Assertions.{Distinct}
use Rattle.ranges.specs.Ranges.{Has}
use Rattle.library.proofs.Counts.{none_counted, none_from_count}

abbrev pub is_one : ℕ → ℕ → ℕ
is_one w x = cond (nat_eq w x) 1 0

-- a number that is counted stands somewhere
counted_at : (xs : List ℕ) (w : ℕ) → 1 ≤ sum_by (is_one w) xs → (k : ℕ) × (k < length xs) × (get_or xs k w ≡ w)
counted_at [] w h = absurd (omega (arith, h))
counted_at (x ∷ xs) w h =
    elim (cases_Bool (nat_eq w x)) [
      | inl so ↦ (0, omega arith, sym (eqb-true w x so))
      | inr other ↦
          let r = counted_at xs w (omega (arith, sum_by-cons (is_one w) x xs, cond-false {A = ℕ} (nat_eq w x) 1 0 other)) in
          (suc r.0, omega (arith, r.1), r.2)
    ]

pub permutation_from_counts : (xs ys : List ℕ) → ((w : ℕ) → sum_by (is_one w) xs ≡ sum_by (is_one w) ys) → IsPermutation xs ys
permutation_from_counts [] [] same = IsPermutation-refl []
permutation_from_counts [] (y ∷ ys) same =
    absurd (omega (arith, same y, sum_by-cons (is_one y) y ys, cond-true {A = ℕ} (nat_eq y y) 1 0 (eq-eqb y y refl)))
permutation_from_counts (x ∷ xs) ys same =
    let own = cond-true {A = ℕ} (nat_eq x x) 1 0 (eq-eqb x x refl) in
    let at = counted_at ys x (omega (arith, same x, sum_by-cons (is_one x) x xs, own)) in
    let rest = permutation_from_counts xs (remove ys at.0) (λ w.
    let r = sum_by-remove (is_one w) ys at.0 x at.1 in
    let z : is_one w (get_or ys at.0 x) ≡ is_one w x = ap (is_one w) at.2 in
    omega (arith, same w, sum_by-cons (is_one w) x xs, r, z)) in
    IsPermutation-trans (x ∷ xs) (x ∷ remove ys at.0) ys (IsPermutation-cons x xs (remove ys at.0) rest)
    (IsPermutation-sym ys (x ∷ remove ys at.0) (IsPermutation-remove ys at.0 x at.1 (sym at.2)))

-- ---- sums over parts

pub sum_by-filter : {A : Type 0} (f : A → ℕ) (p : A → Bool) (xs : List A) → sum_by f (filter p xs) ≡ sum_by (λ x. cond (p x) (f x) 0) xs
sum_by-filter f p [] = refl
sum_by-filter {A} f p (x ∷ xs) =
    let more = sum_by-cons (λ (y : A). cond (p y) (f y) 0) x xs in
    let rest = sum_by-filter f p xs in
    elim (cases_Bool (p x)) [
      | inl so ↦
          let kept : filter p (x ∷ xs) ≡ x ∷ filter p xs = cond-true (p x) (x ∷ filter p xs) (filter p xs) so in
          ap (sum_by f) kept ∙ omega (arith, sum_by-cons f x (filter p xs), more, rest, cond-true {A = ℕ} (p x) (f x) 0 so)
      | inr other ↦
          let kept : filter p (x ∷ xs) ≡ filter p xs = cond-false (p x) (x ∷ filter p xs) (filter p xs) other in
          ap (sum_by f) kept ∙ omega (arith, more, rest, cond-false {A = ℕ} (p x) (f x) 0 other)
    ]

pub sum_by-map : {A B : Type 0} (f : B → ℕ) (g : A → B) (xs : List A) → sum_by f (map g xs) ≡ sum_by (λ x. f (g x)) xs
sum_by-map f g [] = refl
sum_by-map {A} f g (x ∷ xs) = omega (arith, sum_by-cons f (g x) (map g xs), sum_by-cons (λ (y : A). f (g y)) x xs, sum_by-map f g xs)

-- ---- filters of permutations

-- the numbers of those that pass, in another order
pub filtered_permutation : {A : Type 0} (p : A → Bool) (g : A → ℕ) (xs ys : List A) → IsPermutation xs ys
    → IsPermutation (map g (filter p xs)) (map g (filter p ys))
filtered_permutation {A = A} p g xs ys m =
    permutation_from_counts (map g (filter p xs)) (map g (filter p ys)) (λ w.
    count w xs ∙ sym (sum_by-IsPermutation (λ x. cond (p x) (is_one w (g x)) 0) xs ys m) ∙ sym (count w ys))
  where
    count : (w : ℕ) (zs : List A) → sum_by (is_one w) (map g (filter p zs)) ≡ sum_by (λ x. cond (p x) (is_one w (g x)) 0) zs
    count w zs = sum_by-map (is_one w) g (filter p zs) ∙ sum_by-filter (λ x. is_one w (g x)) p zs

pub filter_permutation : (p : ℕ → Bool) (xs ys : List ℕ) → IsPermutation xs ys → IsPermutation (filter p xs) (filter p ys)
filter_permutation p xs ys m =
    permutation_from_counts (filter p xs) (filter p ys) (λ w.
    sum_by-filter (is_one w) p xs ∙ sym (sum_by-IsPermutation (λ x. cond (p x) (is_one w x) 0) xs ys m)
    ∙ sym (sum_by-filter (is_one w) p ys))

-- a filter that all pass
pub filter_all : {A : Type 0} (p : A → Bool) (xs : List A) → ((x : A) → Has x xs → p x ≡ true) → filter p xs ≡ xs
filter_all p [] all = refl
filter_all p (x ∷ xs) all =
    cond-true (p x) (x ∷ filter p xs) (filter p xs) (all x (inl refl)) ∙ ap (λ l. x ∷ l) (filter_all p xs (λ y h. all y (inr h)))

-- ---- numbers that differ

-- numbers differ where each is counted at most once
distinct_counts : (xs : List ℕ) → Distinct nat_eq xs → (w : ℕ) → sum_by (is_one w) xs ≤ 1
distinct_counts [] d w = omega arith
distinct_counts (x ∷ xs) d w =
    elim (cases_Bool (nat_eq w x)) [
      | inl so ↦
          let none : list_any (nat_eq w) xs ≡ false = subst (λ n. list_any (nat_eq n) xs ≡ false) (sym (eqb-true w x so)) d.0 in
          omega (arith, sum_by-cons (is_one w) x xs, cond-true {A = ℕ} (nat_eq w x) 1 0 so, none_counted (nat_eq w) xs none)
      | inr other ↦ omega (arith, sum_by-cons (is_one w) x xs, cond-false {A = ℕ} (nat_eq w x) 1 0 other, distinct_counts xs d.1 w)
    ]

distinct_from_counts : (xs : List ℕ) → ((w : ℕ) → sum_by (is_one w) xs ≤ 1) → Distinct nat_eq xs
distinct_from_counts [] most = tt
distinct_from_counts (x ∷ xs) most =
    let own = cond-true {A = ℕ} (nat_eq x x) 1 0 (eq-eqb x x refl) in (
      none_from_count (nat_eq x) xs (omega (arith, sum_by-cons (is_one x) x xs, most x)),
      distinct_from_counts xs (λ w. omega (arith, sum_by-cons (is_one w) x xs, most w)),
    )

pub distinct_permutation : (xs ys : List ℕ) → IsPermutation xs ys → Distinct nat_eq xs → Distinct nat_eq ys
distinct_permutation xs ys m d =
    distinct_from_counts ys (λ w. subst (λ n. n ≤ 1) (sym (sum_by-IsPermutation (is_one w) xs ys m)) (distinct_counts xs d w))

-- the numbers of those that pass
pub distinct_filtered : {A : Type 0} (p : A → Bool) (g : A → ℕ) (xs : List A) → Distinct nat_eq (map g xs)
    → Distinct nat_eq (map g (filter p xs))
distinct_filtered {A = A} p g xs d =
    distinct_from_counts (map g (filter p xs)) (λ w.
    let a = sum_by-map (is_one w) g (filter p xs) in
    let b = sum_by-filter (λ (x : A). is_one w (g x)) p xs in
    let c = sum_by-le-sum_by (λ (x : A). cond (p x) (is_one w (g x)) 0) (λ x. is_one w (g x)) xs (λ x. at_most (p x) (is_one w (g x))) in
    let e = sum_by-map (is_one w) g xs in
    omega (arith, a, b, c, e, distinct_counts (map g xs) d w))
  where
    at_most : (b : Bool) (n : ℕ) → cond b n 0 ≤ n
    at_most true n = omega arith
    at_most false n = omega arith
