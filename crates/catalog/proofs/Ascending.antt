-- Ascending lists of places: one place more, and how often a test passes over them.
use Rattle.std.proofs.Common.{◌≡◌, ◌≢◌, ℕ, true, false, ltb, Some, zero, suc, ◌+◌, ◌-◌, ◌<◌, ◌≤◌, ◌⊎◌, List, [], ◌∷◌, length, get_or, take}
use Rattle.std.proofs.Common.{drop, insert}
use Rattle.std.proofs.Common.{sym, ap, subst, ◌∙◌, inl, inr, arith}
use Rattle.std.specs.List.{Contains, slice_get}
use Rattle.std.specs.List.Sorted.{IsStrictlyIncreasing, IsPartitionPoint, IsPartitionedBy}
use Rattle.std.proofs.lemmas.Bool.{cases_order, cases_eq, ltb-true, ltb-false, lt-ltb}
use Rattle.std.proofs.lemmas.Option.{slice_get-get_or}
use Rattle.std.proofs.lemmas.List.Edits.{length-insert, get_or-insert_below, get_or-insert_at, get_or-insert_above}
use Rattle.std.proofs.lemmas.List.Kept.{AllPairs-from_increasing}
use Rattle.std.proofs.lemmas.List.Elements.{Contains-append_left, Contains-append_right, Contains-append_cases}
use Rattle.std.proofs.lemmas.List.{take-append-drop}

-- ---- one more

module _ (xs : List ℕ) (i q : ℕ) (within : i ≤ length xs) where
  -- between the lower ones and the higher ones
  pub insert-ascending : IsStrictlyIncreasing xs → ((k : ℕ) → k < i → get_or xs k 0 < q)
      → ((k : ℕ) → i ≤ k → k < length xs → q < get_or xs k 0) → IsStrictlyIncreasing (insert xs i q)
  insert-ascending up before behind k lt =
      let long = length-insert xs i q within in
      elim (cases_order k i) [
        | inl here ↦
            let own : get_or (insert xs i q) k 0 ≡ q = ap (λ n. get_or (insert xs i q) n 0) here ∙ get_or-insert_at xs i q 0 within in
            let later : get_or (insert xs i q) (k + 1) 0 ≡ get_or xs k 0 = get_or-insert_above xs i q 0 k (omega arith) within in
            rw (own, later) (behind k (omega arith) (omega arith))
        | inr (inl below) ↦
            let own : get_or (insert xs i q) k 0 ≡ get_or xs k 0 = get_or-insert_below xs i q 0 k below within in
            elim (cases_eq (k + 1) i) [
              | inl next ↦
                  let later : get_or (insert xs i q) (k + 1) 0 ≡ q =
                  ap (λ n. get_or (insert xs i q) n 0) next ∙ get_or-insert_at xs i q 0 within in
                  rw (own, later) (before k below)
              | inr more ↦
                  let lower : k + 1 < i = omega arith in
                  let later : get_or (insert xs i q) (k + 1) 0 ≡ get_or xs (k + 1) 0 = get_or-insert_below xs i q 0 (k + 1) lower within in
                  rw (own, later) (up k (omega arith))
            ]
        | inr (inr above) ↦
            let back : k ≡ k - 1 + 1 = omega arith in
            let own : get_or (insert xs i q) k 0 ≡ get_or xs (k - 1) 0 =
            ap (λ n. get_or (insert xs i q) n 0) back ∙ get_or-insert_above xs i q 0 (k - 1) (omega arith) within in
            let later : get_or (insert xs i q) (k + 1) 0 ≡ get_or xs (k - 1 + 1) 0 =
            get_or-insert_above xs i q 0 k (omega arith) within ∙ ap (λ n. get_or xs n 0) back in
            rw (own, later) (up (k - 1) (omega arith))
      ]

  -- it stands there
  pub Contains-inserted : Contains (insert xs i q) q
  Contains-inserted = (i, (let long = length-insert xs i q within in omega arith), get_or-insert_at xs i q q within)

-- and so do the others
pub Contains-insert : (xs : List ℕ) (i q r : ℕ) → Contains xs r → Contains (insert xs i q) r
Contains-insert xs i q r h =
    elim (Contains-append_cases (take i xs) (drop i xs) r (subst (λ l. Contains l r) (sym (take-append-drop i xs)) h)) [
      | inl front ↦ Contains-append_left (take i xs) (q ∷ drop i xs) r front
      | inr back ↦ Contains-append_right (take i xs) (q ∷ drop i xs) r (Contains-append_right (q ∷ []) (drop i xs) r back)
    ]

-- those lower than a place stand before the others
pub lower-parted : (xs : List ℕ) (q : ℕ) → IsStrictlyIncreasing xs → IsPartitionedBy (λ y. ltb y q) xs
lower-parted xs q up i j d le lt below =
    let low = ltb-true (get_or xs j d) q below in
    elim (cases_eq i j) [
      | inl same ↦ (let here : get_or xs i d ≡ get_or xs j d = ap (λ n. get_or xs n d) same in lt-ltb (get_or xs i d) q (omega arith))
      | inr ne ↦ (let pair = AllPairs-from_increasing xs up i j d (omega arith) lt in lt-ltb (get_or xs i d) q (omega arith))
    ]

-- a place that doesn't stand there, before the first that isn't lower
pub entered-ascending : (xs : List ℕ) (i q : ℕ) → IsStrictlyIncreasing xs → i ≤ length xs
    → IsPartitionPoint (λ y. ltb y q ≡ true) (λ y. ltb y q ≡ false) xs i → (slice_get xs i ≡ Some q → ⊥)
    → IsStrictlyIncreasing (insert xs i q)
entered-ascending xs i q up within point absent =
    insert-ascending xs i q within up
    (λ k lt. ltb-true (get_or xs k 0) q (point.0 k 0 (omega arith) lt))
    (λ k le lt.
    let above = ltb-false (get_or xs k 0) q (point.1 k 0 le lt) in
    let first : q ≤ get_or xs i 0 = ltb-false (get_or xs i 0) q (point.1 i 0 (omega arith) (omega arith)) in
    let other : get_or xs i 0 ≢ q = λ e. absent (slice_get-get_or xs i 0 (omega arith) ∙ ap (λ y. Some y) e) in
    elim (cases_eq k i) [
      | inl same ↦ (let here : get_or xs k 0 ≡ get_or xs i 0 = ap (λ n. get_or xs n 0) same in omega arith)
      | inr ne ↦ (let later = AllPairs-from_increasing xs up i k 0 (omega arith) lt in omega arith)
    ])

-- ---- the first and the rest

pub rest-ascends : (x : ℕ) (xs : List ℕ) → IsStrictlyIncreasing (x ∷ xs) → IsStrictlyIncreasing xs
rest-ascends x xs up k lt =
    let next : suc k + 1 ≡ suc (k + 1) = omega arith in
    subst (λ n. get_or xs k 0 < get_or (x ∷ xs) n 0) next (up (suc k) (omega arith))

pub first-below : (x : ℕ) (xs : List ℕ) (q : ℕ) → IsStrictlyIncreasing (x ∷ xs) → Contains xs q → x < q
first-below x xs q up h =
    let pairs : x < get_or xs h.0 q = AllPairs-from_increasing (x ∷ xs) up 0 (suc h.0) q (omega arith) (let lt = h.1 in omega arith) in
    subst (λ n. x < n) h.2 pairs

-- what stands in a list is its first or stands in the rest
pub first-or-rest : {A : Type 0} (x : A) (xs : List A) (q : A) → Contains (x ∷ xs) q → (q ≡ x) ⊎ Contains xs q
first-or-rest x xs q h = at h.0 h.1 h.2
  where
    at : (k : ℕ) → k < length (x ∷ xs) → get_or (x ∷ xs) k q ≡ q → (q ≡ x) ⊎ Contains xs q
    at zero lt own = inl (sym own)
    at (suc k) lt own = inr (k, omega arith, own)
