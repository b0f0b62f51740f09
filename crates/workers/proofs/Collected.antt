-- The rows of all shifts together: each script has one, and once they are sorted they are in the order of the scripts.
use Rattle.std.proofs.Common.{◌≡◌, ℕ, zero, suc, ◌+◌, ◌-◌, ◌<◌, ◌≤◌, List, [], ◌∷◌, ◌++◌, length, map, flat_map, get_or, true, false}
use Rattle.std.proofs.Common.{All, IsPermutation, inl, inr, refl, sym, ap, subst, ◌∙◌, arith}
use Rattle.std.specs.Ordering.{nat_cmp, is_lt}
use Rattle.std.specs.List.Sorted.{IsSorted, IsNonDecreasing, IsNonDecreasingBy}
use Rattle.std.proofs.lemmas.Bool.{cases_lt}
use Rattle.std.proofs.lemmas.Bool.Decides.{nat_tests}
use Rattle.std.proofs.lemmas.Cmp.{nat_cmp_total}
use Rattle.std.proofs.lemmas.List.{append-nil, nil_from_length, length-append, length-map, map-append}
use Rattle.std.proofs.lemmas.List.{ext_get_or, get_or-map, get_or_append_left, get_or-append_right}
use Rattle.std.proofs.lemmas.List.Elements.{All-head, All-tail}
use Rattle.std.proofs.lemmas.List.Sorted.{IsPermutation-sym, IsPermutation-trans, IsPermutation-map, length_permutation}
use Rattle.std.proofs.lemmas.Map.Lookups.{exact_unsigned}
use Rattle.library.proofs.Orders.{ties_at}
use Rattle.claims.specs.Claims.{Counting, AreClaimed, claims_of, up_to}
use Rattle.workers.specs.declared.shift.Row.{Row}
use Rattle.workers.specs.declared.shift.Shift.{Shift}
use Rattle.workers.specs.Shifts.{AreWhole}

-- ---- a loop over a list

-- when nothing is left, what is done is all
pub all_done : {A B : Type 0} (f : List A → List B) (done all : List B) (left : List A) → f [] ≡ [] → length left ≡ 0 → done ++ f left ≡ all
    → done ≡ all
all_done f done all left none ended so_far =
    sym (append-nil done) ∙ (ap (λ xs. done ++ xs) (sym none ∙ ap f (sym (nil_from_length left ended))) ∙ so_far)

-- ---- the numbers from 0 on, sorted

pub length-up_to : (n : ℕ) → length (up_to n) ≡ n
length-up_to zero = refl
length-up_to (suc n) = let h = length-up_to n in omega (arith, h, length-append (up_to n) (n ∷ []))

pub at_up_to : (n k d : ℕ) → k < n → get_or (up_to n) k d ≡ k
at_up_to zero k d within = absurd (omega (arith, within))
at_up_to (suc n) k d within =
    let long = length-up_to n in
    elim (cases_lt k n) [
      | inl front ↦ get_or_append_left (up_to n) (n ∷ []) d k (omega (arith, long, front)) ∙ at_up_to n k d front
      | inr last ↦
          let here : k ≡ n = omega (arith, within, last) in
          let none : k - n ≡ 0 = omega (arith, here) in
          get_or-append_right (up_to n) (n ∷ []) n k d long last ∙ (ap (λ i. get_or (n ∷ []) i d) none ∙ sym here)
    ]

-- numbers that rise, as a sort by their order has them
sorted_from_rising : (xs : List ℕ) → IsNonDecreasing xs → IsSorted nat_cmp xs
sorted_from_rising xs rises k d low within = not_below _ _ (rises k (k + 1) d (omega arith) within)
  where
    not_below : (a b : ℕ) → a ≤ b → is_lt (nat_cmp b a) ≡ false
    not_below a b le = grind (arith, nat_tests)

rising_map : {X : Type 0} (f : X → ℕ) (xs : List X) → IsNonDecreasingBy f xs → IsNonDecreasing (map f xs)
rising_map f [] rises i j d le within = absurd (omega (arith, within))
rising_map f (x ∷ xs) rises i j d le within =
    let inside : j < length (x ∷ xs) = omega (arith, length-map (x ∷ xs) f, within) in
    let first = get_or-map f (x ∷ xs) i x d (omega (arith, le, inside)) in
    let second = get_or-map f (x ∷ xs) j x d inside in
    let up = rises i j x le inside in
    omega (arith, first, second, up)

rising_up_to : (n : ℕ) → IsNonDecreasing (up_to n)
rising_up_to n i j d le within =
    let long = length-up_to n in
    let first = at_up_to n i d (omega (arith, long, le, within)) in
    let second = at_up_to n j d (omega (arith, long, within)) in
    omega (arith, first, second, le)

-- a list of them in another order, which rises, is they
pub sorted_up_to : (n : ℕ) (xs : List ℕ) → IsPermutation (up_to n) xs → IsNonDecreasing xs → xs ≡ up_to n
sorted_up_to n xs same rises =
    let ups = up_to n in
    let back = IsPermutation-sym ups xs same in
    let sorted = sorted_from_rising xs rises in
    let ups_sorted = sorted_from_rising ups (rising_up_to n) in
    ext_get_or 0 xs ups (sym (length_permutation xs ups back)) (λ k within.
    exact_unsigned _ _ (ties_at nat_cmp_total xs ups back same sorted ups_sorted k 0 within))

-- ---- what the claimants claimed

abbrev pub rows_of : List Shift → List Row
rows_of shifts = flat_map (λ s. s.rows.items) shifts

-- it is the scripts of the rows of all shifts
claims_are : (shifts : List Shift) → All (λ s. s.claimant.claimed ≡ map (λ row. row.script) s.rows.items) shifts
    → claims_of (map (λ s. s.claimant) shifts) ≡ map (λ row. row.script) (rows_of shifts)
claims_are [] claimed = refl
claims_are (s ∷ ss) claimed =
    let own = λ (s : Shift). s.claimant.claimed ≡ map (λ row. row.script) s.rows.items in
    let script = λ (row : Row). row.script in
    ap (λ ns. ns ++ claims_of (map (λ s. s.claimant) ss)) (All-head own s ss claimed)
    ∙ (ap (λ ns. map script s.rows.items ++ ns) (claims_are ss (All-tail own s ss claimed))
    ∙ sym (map-append script s.rows.items (rows_of ss)))

-- the rows in the order of their scripts are one for each script
pub in_order : (numbers : Counting) (shifts : List Shift) (rows : List Row) → AreWhole numbers shifts
    → AreClaimed numbers (map (λ s. s.claimant) shifts) → IsPermutation (rows_of shifts) rows
    → IsNonDecreasingBy (λ row. row.script) rows → map (λ row. row.script) rows ≡ up_to numbers.count
in_order numbers [] rows whole claimed same rises = absurd (whole.some refl)
in_order numbers (s ∷ ss) rows whole claimed same rises =
    let shifts = s ∷ ss in
    let script = λ (row : Row). row.script in
    let told = All-head (λ (s : Shift). s.claimant.ended ≡ true) s ss whole.ended in
    let many : claimed.many ≡ numbers.count = claimed.all s.claimant (inl refl) told in
    let claims = subst (λ ns. IsPermutation (up_to claimed.many) ns) (claims_are shifts whole.claimed) claimed.each in
    let each = IsPermutation-trans _ _ _ claims (IsPermutation-map script _ _ same) in
    sorted_up_to claimed.many (map script rows) each (rising_map script rows rises) ∙ ap up_to many
