-- What a filter and a map keep of a list: elements, and different labels.
use Rattle.std.proofs.Common.{◌≡◌, ℕ, Bool, true, List, ◌++◌, get_or, map, refl, ap, subst, ◌∙◌, inl, inr, arith}
use Rattle.std.specs.Prelude.{filter}
use mathlib.Core.Bool.{not}
use Rattle.std.specs.List.{Contains}
use Rattle.std.specs.List.Sorted.{IsPermutation}
use Rattle.std.specs.Str.{bytes_eq}
use Rattle.std.proofs.lemmas.Bool.{both_ways, not-true}
use Rattle.std.proofs.lemmas.List.{length-map, get_or-map, map-append}
use Rattle.std.proofs.lemmas.List.Elements.{All-contains, All-contains_itself, All-filter, All-map, Contains-append_cases}
use Rattle.std.proofs.lemmas.List.Elements.{Contains-get_or, filter_passes}
use Rattle.std.proofs.lemmas.List.Sorted.{Contains-permutation, IsPermutation-map, IsPermutation-filter_both}
use Rattle.mmsyntax.specs.Assertions.{Distinct}
use Rattle.mmsyntax.proofs.Distinct.{distinct_left}
use Rattle.library.proofs.Labels.{distinct_permutation}

-- what a map makes of an element is an element
pub contains_mapped : {A B : Type 0} (f : A → B) (xs : List A) (x : A) → Contains xs x → Contains (map f xs) (f x)
contains_mapped f xs x at = (at.0, omega (arith, at.1, length-map xs f), get_or-map f xs at.0 x (f x) at.1 ∙ ap f at.2)

-- and no others are
pub contains_unmapped : {A B : Type 0} (f : A → B) (xs : List A) (y : B) → Contains (map f xs) y → (x : A) × Contains xs x × (f x ≡ y)
contains_unmapped {A} {B} f xs y at =
    let Made = λ (z : B). (x : A) × Contains xs x × (f x ≡ z) in
    All-contains Made (map f xs) y (All-map Made f xs (λ i d lt. (get_or xs i d, Contains-get_or xs i d lt, refl))) at

-- those that pass, and then the others
sorted_out : {A : Type 0} (p : A → Bool) (xs : List A) → IsPermutation xs (filter p xs ++ filter (λ x. not (p x)) xs)
sorted_out p xs = IsPermutation-filter_both p (λ x. not (p x)) (λ x. refl) xs

-- an element that passes is kept
pub contains_filtered : {A : Type 0} (p : A → Bool) (xs : List A) (x : A) → Contains xs x → p x ≡ true → Contains (filter p xs) x
contains_filtered {A} p xs x at passes =
    let q = λ (y : A). not (p y) in
    elim (Contains-append_cases (filter p xs) (filter q xs) x (Contains-permutation xs _ x (sorted_out p xs) at)) [
      | inl kept ↦ kept
      | inr gone ↦
          let fails = All-contains (λ y. q y ≡ true) (filter q xs) x (filter_passes q xs) gone in
          absurd (both_ways (p x) (not-true (p x) fails) passes)
    ]

-- only elements are kept
pub contained_filter : {A : Type 0} (p : A → Bool) (xs : List A) (x : A) → Contains (filter p xs) x → Contains xs x
contained_filter p xs x at =
    All-contains (Contains xs) (filter p xs) x (All-filter p (Contains xs) xs (All-contains_itself xs)) at

-- what is kept has different keys, where all have
pub distinct_filtered : {A : Type 0} (key : A → List ℕ) (p : A → Bool) (xs : List A) → Distinct bytes_eq (map key xs)
    → Distinct bytes_eq (map key (filter p xs))
distinct_filtered key p xs apart =
    let kept = filter p xs in
    let gone = filter (λ x. not (p x)) xs in
    let moved = IsPermutation-map key xs (kept ++ gone) (sorted_out p xs) in
    let all = distinct_permutation (map key xs) (map key (kept ++ gone)) moved apart in
    distinct_left bytes_eq (map key kept) (map key gone) (subst (Distinct bytes_eq) (map-append key kept gone) all)
