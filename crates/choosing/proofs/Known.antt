-- The labels of a wish that is granted are those of assertions, and stand the right way round.
use Rattle.std.proofs.Common.{◌≡◌, ◌<◌, ◌≤◌, ◌+◌, ℕ, suc, zero, Bool, true, false, List, [], ◌∷◌, length, take, get_or, Some}
use Rattle.std.proofs.Common.{None, Bor, ◌++◌, sym, ap, ◌∙◌, arith, add-one, inl, inr}
use Rattle.std.specs.Prelude.{find, is_some}
use mathlib.Core.Bool.{not}
use Rattle.std.specs.Str.{bytes_eq}
use Rattle.std.proofs.lemmas.Bool.{cases_Bool, cond-true, cond-false}
use Rattle.std.proofs.lemmas.List.Folds.{find-append}
use Rattle.std.specs.Option.{option_or}
use Rattle.mmtext.specs.Words.{Word}
use Rattle.mmsyntax.specs.Tables.{place_of}
use Rattle.mmsyntax.proofs.Distinct.{any-map, is_some-place_of}
use Rattle.source.specs.Scopes.{Assertion, Scope, is_in}
use Rattle.source.specs.Views.{seen_words}
use Rattle.choosing.specs.declared.wish.Wish.TheVariants as wish
use Rattle.choosing.specs.Choices.{labels_of, place_in, first_unknown, StandsBehind}

-- no assertion has the label
abbrev pub is_unknown : List Assertion → Word → Bool
is_unknown xs w = not (is_in (labels_of xs) w)

found_is : (xs : List Assertion) (w : Word) (b : Bool) → is_some (place_of (λ x. bytes_eq w x.label) xs) ≡ b → is_unknown xs w ≡ not b
found_is xs w b h =
    ap not (any-map (bytes_eq w) (λ (x : Assertion). x.label) xs ∙ sym (is_some-place_of (λ (x : Assertion). bytes_eq w x.label) xs) ∙ h)

-- ---- the first that passes

none_parts : (p : Word → Bool) (w : Word) (ws : List Word) → find p (w ∷ ws) ≡ None → (p w ≡ false) × (find p ws ≡ None)
none_parts p w ws h = elim (cases_Bool (p w)) [
  | inl y ↦ absurd (let e : Some w ≡ None = sym (cond-true (p w) (Some w) (find p ws) y) ∙ h in cc)
  | inr n ↦ (n, sym (cond-false (p w) (Some w) (find p ws) n) ∙ h)
]

none_more : (p : Word → Bool) (labels : List (Bor (List ℕ))) (k : ℕ) (d : Bor (List ℕ)) → k < length labels
    → p (get_or labels k d).now ≡ false → find p (seen_words (take k labels)) ≡ None
    → find p (seen_words (take (suc k) labels)) ≡ None
none_more p [] k d h one none = absurd (omega arith)
none_more p (l ∷ ls) zero d h one none = cond-false (p l.now) (Some l.now) None one
none_more p (l ∷ ls) (suc k) d h one none =
    let both = none_parts p l.now (seen_words (take k ls)) none in
    cond-false (p l.now) (Some l.now) (find p (seen_words (take (suc k) ls))) both.0 ∙ none_more p ls k d (omega arith) one both.1

first_found : (p : Word → Bool) (labels : List (Bor (List ℕ))) (k : ℕ) (d : Bor (List ℕ)) → k < length labels
    → p (get_or labels k d).now ≡ true → find p (seen_words (take k labels)) ≡ None
    → find p (seen_words labels) ≡ Some (get_or labels k d).now
first_found p [] k d h one none = absurd (omega arith)
first_found p (l ∷ ls) zero d h one none = cond-true (p l.now) (Some l.now) (find p (seen_words ls)) one
first_found p (l ∷ ls) (suc k) d h one none =
    let both = none_parts p l.now (seen_words (take k ls)) none in
    cond-false (p l.now) (Some l.now) (find p (seen_words ls)) both.0 ∙ first_found p ls k d (omega arith) one both.1

-- ---- labels of a list

-- one more label
pub known_more : (xs : List Assertion) (labels : List (Bor (List ℕ))) (k : ℕ) (d : Bor (List ℕ)) → k < length labels
    → is_some (place_of (λ x. bytes_eq (get_or labels k d).now x.label) xs) ≡ true
    → find (is_unknown xs) (seen_words (take k labels)) ≡ None → find (is_unknown xs) (seen_words (take (k + 1) labels)) ≡ None
known_more xs labels k d h there none =
    ap (λ j. find (is_unknown xs) (seen_words (take j labels))) (add-one k)
    ∙ none_more (is_unknown xs) labels k d h (found_is xs (get_or labels k d).now true there) none

-- the first that no assertion has
pub unknown_found : (xs : List Assertion) (labels : List (Bor (List ℕ))) (k : ℕ) (d : Bor (List ℕ)) → k < length labels
    → is_some (place_of (λ x. bytes_eq (get_or labels k d).now x.label) xs) ≡ false
    → find (is_unknown xs) (seen_words (take k labels)) ≡ None → find (is_unknown xs) (seen_words labels) ≡ Some (get_or labels k d).now
unknown_found xs labels k d h absent none =
    first_found (is_unknown xs) labels k d h (found_is xs (get_or labels k d).now false absent) none

-- ---- labels of two lists

-- none of the first nor of the second
pub known_of_both : (p : Word → Bool) (ws vs : List Word) → find p ws ≡ None → find p vs ≡ None → find p (ws ++ vs) ≡ None
known_of_both p ws vs a b = find-append p ws vs ∙ ap (λ o. option_or o (find p vs)) a ∙ b

-- the first of the first
pub unknown_of_first : (p : Word → Bool) (ws vs : List Word) (w : Word) → find p ws ≡ Some w → find p (ws ++ vs) ≡ Some w
unknown_of_first p ws vs w a = find-append p ws vs ∙ ap (λ o. option_or o (find p vs)) a

-- none of the first, but the first of the second
pub unknown_of_second : (p : Word → Bool) (ws vs : List Word) (w : Word) → find p ws ≡ None → find p vs ≡ Some w
    → find p (ws ++ vs) ≡ Some w
unknown_of_second p ws vs w a b = find-append p ws vs ∙ ap (λ o. option_or o (find p vs)) a ∙ b

-- ---- two labels

module _ (s : Scope) (from to : Bor (List ℕ)) where
  -- the first
  pub first_is_unknown : place_in s from.now ≡ None → first_unknown s (wish.Between from to) ≡ Some from.now
  first_is_unknown none =
      cond-true (is_unknown s.assertions from.now) (Some from.now) (find (is_unknown s.assertions) (to.now ∷ []))
      (found_is s.assertions from.now false (ap is_some none))

  known_first : (i : ℕ) → place_in s from.now ≡ Some i
      → first_unknown s (wish.Between from to) ≡ find (is_unknown s.assertions) (to.now ∷ [])
  known_first i begins =
      cond-false (is_unknown s.assertions from.now) (Some from.now) (find (is_unknown s.assertions) (to.now ∷ []))
      (found_is s.assertions from.now true (ap is_some begins))

  -- the second
  pub second_is_unknown : (i : ℕ) → place_in s from.now ≡ Some i → place_in s to.now ≡ None
      → first_unknown s (wish.Between from to) ≡ Some to.now
  second_is_unknown i begins none =
      known_first i begins
      ∙ cond-true (is_unknown s.assertions to.now) (Some to.now) None (found_is s.assertions to.now false (ap is_some none))

  -- none of both
  pub known_both : (i j : ℕ) → place_in s from.now ≡ Some i → place_in s to.now ≡ Some j
      → first_unknown s (wish.Between from to) ≡ None
  known_both i j begins ends =
      known_first i begins
      ∙ cond-false (is_unknown s.assertions to.now) (Some to.now) None (found_is s.assertions to.now true (ap is_some ends))

  pub in_order : (i j : ℕ) → place_in s from.now ≡ Some i → place_in s to.now ≡ Some j → i ≤ j
      → StandsBehind s (wish.Between from to) → ⊥
  in_order i j begins ends order h =
      let a : i ≡ h.0 = let e : Some i ≡ Some h.0 = sym begins ∙ h.2 in cc in
      let b : j ≡ h.1 = let e : Some j ≡ Some h.1 = sym ends ∙ h.3 in cc in
      let lt = h.4 in
      omega arith
