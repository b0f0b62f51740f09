-- Those of a list that another hasn't.
use Rattle.std.proofs.Common.{◌≡◌, ℕ, ◌+◌, ◌<◌, List, [], ◌∷◌, ◌++◌, Result, Bool, true, false, length, refl, sym, subst, ◌||◌, ap, ◌∙◌, take, get_or}
use Rattle.std.proofs.Common.{inl, inr, arith, eqb}
use Rattle.std.specs.Ordering.{nat_cmp}
use Rattle.std.specs.Prelude.{filter, is_ok}
use mathlib.Core.Bool.{not}
use Rattle.std.specs.List.Sorted.{IsStrictlyIncreasing, IsBinarySearchResult}
use Rattle.std.proofs.lemmas.Bool.{cases_Bool, cases_eq, cond-true, cond-false, eq-eqb, ne_eqb, not-true}
use Rattle.std.proofs.lemmas.List.{take_more, append-nil}
use Rattle.std.proofs.lemmas.List.Elements.{filter-append}
use Rattle.std.proofs.lemmas.List.Kept.{AllPairs-from_increasing, IsStrictlyIncreasing-filter}
use Rattle.std.proofs.lemmas.List.Sorted.{searched}
use Rattle.ranges.specs.Ranges.{Has}
use Rattle.mmframes.proofs.Mandatory.{has, halved-has, Rises-from, Rises-order}
use Rattle.bodystore.proofs.CitedSlots.{distinct_pairs}
use Rattle.cells.specs.Counts.{AreOnlyIn}
use Rattle.ranges.proofs.Members.{any_has, has_filtered, filtered_has}

abbrev pub is_outside : List ℕ → ℕ → Bool
is_outside others i = not (has i others)

listed_there : (xs : List ℕ) (x : ℕ) → has x xs ≡ true → Has x xs
listed_there [] x h = absurd cc
listed_there (y ∷ ys) x h =
    elim (cases_eq x y) [
      | inl e ↦ inl e
      | inr ne ↦ inr (listed_there ys x (subst (λ (b : Bool). (b || has x ys) ≡ true) (ne_eqb y x (λ z. ne (sym z))) h))
    ]

-- the list, one step further
outside_more : (others xs : List ℕ) (i x : ℕ) → i < length xs → x ≡ get_or xs i 0
    → filter (is_outside others) (take (i + 1) xs) ≡ filter (is_outside others) (take i xs) ++ filter (is_outside others) (x ∷ [])
outside_more others xs i x lt is =
    ap (filter (is_outside others)) (take_more xs i 0 lt) ∙ filter-append (is_outside others) (take i xs) (get_or xs i 0 ∷ [])
    ∙ ap (λ (y : ℕ). filter (is_outside others) (take i xs) ++ filter (is_outside others) (y ∷ [])) (sym is)

pub outside_one : (others xs : List ℕ) (i x : ℕ) → i < length xs → x ≡ get_or xs i 0 → has x others ≡ false
    → filter (is_outside others) (take (i + 1) xs) ≡ filter (is_outside others) (take i xs) ++ x ∷ []
outside_one others xs i x lt is out =
    outside_more others xs i x lt is
    ∙ ap (λ (l : List ℕ). filter (is_outside others) (take i xs) ++ l) (cond-true (is_outside others x) (x ∷ []) [] (ap not out))

pub outside_none : (others xs : List ℕ) (i x : ℕ) → i < length xs → x ≡ get_or xs i 0 → has x others ≡ true
    → filter (is_outside others) (take (i + 1) xs) ≡ filter (is_outside others) (take i xs)
outside_none others xs i x lt is there =
    outside_more others xs i x lt is
    ∙ ap (λ (l : List ℕ). filter (is_outside others) (take i xs) ++ l) (cond-false (is_outside others x) (x ∷ []) [] (ap not there))
    ∙ append-nil (filter (is_outside others) (take i xs))

pub are_only_in : (xs others : List ℕ) → IsStrictlyIncreasing xs → AreOnlyIn xs others (filter (is_outside others) xs)
are_only_in xs others up =
    let p = is_outside others in
    record {
      apart = distinct_pairs (filter p xs) (AllPairs-from_increasing (filter p xs) (IsStrictlyIncreasing-filter p xs up));
      from = λ i h. let r = filtered_has p xs i h in (
        r.0,
        λ there. let so = any_has (λ k. eqb k i) others i there (eq-eqb i i refl) in
            let out = not-true (has i others) r.1 in absurd (let z : true ≡ false = sym so ∙ out in cc),
      );
      all = λ i h out. elim (cases_Bool (has i others)) [
        | inl there ↦ absurd (out (listed_there others i there))
        | inr none ↦ has_filtered p xs i h (ap not none)
      ];
    }

-- what a search among ascending numbers finds
pub found_among : (xs : List ℕ) (x : ℕ) (r : Result ℕ ℕ) → IsStrictlyIncreasing xs → IsBinarySearchResult (λ y. nat_cmp y x) xs r
    → is_ok r ≡ has x xs
found_among xs x r up h =
    halved-has xs x r (searched xs x r h (Rises-order 0 xs (Rises-from 0 xs (λ lt. omega arith) up)))
