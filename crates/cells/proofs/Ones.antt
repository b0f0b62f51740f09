-- The one element of a list that passes a test, and the others.
use Rattle.std.proofs.Common.{◌≡◌, ℕ, Bool, true, false, cond, List, [], ◌∷◌, ◌++◌, map, refl, sym, ap, subst, ◌∙◌, inl, inr}
use Rattle.std.specs.Prelude.{filter, IsPermutation}
use mathlib.Core.Bool.{not}
use Rattle.std.specs.List.{list_any}
use Rattle.std.specs.Str.{bytes_eq}
use Rattle.std.proofs.lemmas.Bool.{both_ways, cond-true, cond-false, false_from_ne_true}
use Rattle.std.proofs.lemmas.List.{map-id}
use Rattle.std.proofs.lemmas.List.Sorted.{IsPermutation-filter_both}
use Rattle.mmsyntax.specs.Assertions.{Distinct}
use Rattle.mmsyntax.proofs.Names.{same_bytes, bytes_eq-same}
use Rattle.library.specs.declared.library.Ranked.{Ranked}
use Rattle.library.specs.Library.{label_of}
use Rattle.library.specs.Edits.{is_labelled, without}
use Rattle.ranges.specs.Ranges.{Has}
use Rattle.ranges.proofs.Members.{any_has, has_mapped}

-- ---- maps and filters of what stands in a list

pub map_agree : {A B : Type 0} (f g : A → B) (xs : List A) → ((x : A) → Has x xs → f x ≡ g x) → map f xs ≡ map g xs
map_agree f g [] alike = refl
map_agree f g (x ∷ xs) alike =
    let first = alike x (inl refl) in
    let rest = map_agree f g xs (λ y h. alike y (inr h)) in
    λ i. first i ∷ rest i

pub map_same : {A : Type 0} (f : A → A) (xs : List A) → ((x : A) → Has x xs → f x ≡ x) → map f xs ≡ xs
map_same f xs same = map_agree f (λ x. x) xs same ∙ map-id xs

pub filter_none : {A : Type 0} (p : A → Bool) (xs : List A) → ((x : A) → Has x xs → p x ≡ false) → filter p xs ≡ []
filter_none p [] none = refl
filter_none p (x ∷ xs) none = cond-false (p x) (x ∷ filter p xs) (filter p xs) (none x (inl refl))
    ∙ filter_none p xs (λ y h. none y (inr h))

-- the images of those that pass are the images that pass
pub filter_mapped : {A B : Type 0} (f : A → B) (p : A → Bool) (q : B → Bool) (xs : List A) → ((x : A) → Has x xs → p x ≡ q (f x))
    → map f (filter p xs) ≡ filter q (map f xs)
filter_mapped f p q [] alike = refl
filter_mapped f p q (x ∷ xs) alike =
    let rest = filter_mapped f p q xs (λ y h. alike y (inr h)) in
    ap (λ b. map f (cond b (x ∷ filter p xs) (filter p xs))) (alike x (inl refl))
    ∙ elim (q (f x)) as (λ b. map f (cond b (x ∷ filter p xs) (filter p xs)) ≡ cond b (f x ∷ filter q (map f xs)) (filter q (map f xs))) [
      | true ↦ ap (λ l. f x ∷ l) rest
      | false ↦ rest
    ]

-- ---- one that passes

-- a test that only elements with one key pass, in a list of different keys
module _ {A K : Type 0} (eq : K → K → Bool) (key : A → K) (test : A → Bool) (k : K) (same : (a b : K) → a ≡ b → eq a b ≡ true)
    (passes : (y : A) → test y ≡ true → key y ≡ k) where
  fails : (x y : A) (xs : List A) → list_any (eq (key x)) (map key xs) ≡ false → Has y xs → test x ≡ true → test y ≡ false
  fails x y xs none h so =
      false_from_ne_true (test y) (λ other. both_ways (list_any (eq (key x)) (map key xs)) none
      (any_has (eq (key x)) (map key xs) (key y) (has_mapped key xs y h) (same (key x) (key y) (passes x so ∙ sym (passes y other)))))

  only_one : (xs : List A) (x : A) → Distinct eq (map key xs) → Has x xs → test x ≡ true → filter test xs ≡ x ∷ []
  only_one [] x d h so = absurd h
  only_one (y ∷ ys) x d (inl e) so =
      let here : test y ≡ true = sym (ap test e) ∙ so in
      cond-true (test y) (y ∷ filter test ys) (filter test ys) here
      ∙ ap (λ l. y ∷ l) (filter_none test ys (λ z h. fails y z ys d.0 h here)) ∙ ap (λ z. z ∷ []) (sym e)
  only_one (y ∷ ys) x d (inr h) so =
      let other : test y ≡ false = false_from_ne_true (test y) (λ here. both_ways (test x) (fails y x ys d.0 h here) so) in
      cond-false (test y) (y ∷ filter test ys) (filter test ys) other ∙ only_one ys x d.1 h so

  -- the list is this element and those that do not pass, in another order
  pub one_and_others : (xs : List A) (x : A) → Distinct eq (map key xs) → Has x xs → test x ≡ true
      → IsPermutation xs (x ∷ filter (λ y. not (test y)) xs)
  one_and_others xs x d h so =
      subst (λ l. IsPermutation xs (l ++ filter (λ y. not (test y)) xs)) (only_one xs x d h so)
      (IsPermutation-filter_both test (λ y. not (test y)) (λ y. refl) xs)

-- of assertions with labels
pub label_and_others : (lib : List Ranked) (label : List ℕ) (e : Ranked) → Distinct bytes_eq (map label_of lib) → Has e lib
    → label_of e ≡ label
    → IsPermutation lib (e ∷ without label lib)
label_and_others lib label e d h is =
    one_and_others bytes_eq label_of (is_labelled label) label (λ a b z. subst (λ l. bytes_eq a l ≡ true) z (bytes_eq-same a))
    (λ y so. sym (same_bytes label (label_of y) so)) lib e d h (subst (λ l. bytes_eq label l ≡ true) (sym is) (bytes_eq-same label))
