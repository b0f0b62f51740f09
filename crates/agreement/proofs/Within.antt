-- Words that stand in a list, in its order: their places ascend.
use Rattle.std.proofs.Common.{◌≡◌, ℕ, suc, ◌+◌, ◌≤◌, Bool, true, false, List, [], ◌∷◌, ◌++◌, ◌⊎◌, inl, inr, map, refl, sym, ap, ◌∙◌}
use Rattle.std.proofs.Common.{arith, subst}
use Rattle.std.specs.Prelude.{Option, Some, None, filter}
use Rattle.std.specs.Option.{option_map}
use Rattle.std.specs.List.{list_any, AllByRecursion}
use Rattle.std.specs.Str.{bytes_eq}
use Rattle.std.proofs.lemmas.Bool.{cases_Bool, cond-true, cond-false}
use Rattle.std.proofs.lemmas.Option.{same_Some}
use Rattle.mmtext.specs.Words.{Word}
use Rattle.mmsyntax.specs.Tables.{place_of}
use Rattle.mmsyntax.specs.Assertions.{Distinct}
use Rattle.mmsyntax.proofs.Names.{bytes_eq-same, same_bytes}
use Rattle.mmsyntax.proofs.Distinct.{place_of-absent}
use Rattle.mmframes.proofs.Mandatory.{Rises}
use Rattle.taking.specs.Says.{both, each}

-- ---- the relation

abbrev pub IsWithin : List Word → List Word → Type 0
IsWithin [] [] = Unit {0}
IsWithin (x ∷ xs) [] = ⊥
IsWithin [] (y ∷ ys) = Unit {0}
IsWithin (x ∷ xs) (y ∷ ys) = ((x ≡ y) × IsWithin xs ys) ⊎ IsWithin (x ∷ xs) ys

pub none_within : (ys : List Word) → IsWithin [] ys
none_within [] = tt
none_within (y ∷ ys) = tt

pub later_within : (y : Word) (xs ys : List Word) → IsWithin xs ys → IsWithin xs (y ∷ ys)
later_within y [] ys h = tt
later_within y (x ∷ xs) ys h = inr h

pub same_within : (xs : List Word) → IsWithin xs xs
same_within [] = tt
same_within (x ∷ xs) = inl (refl, same_within xs)

pub front_within : (xs ys : List Word) → IsWithin xs (xs ++ ys)
front_within [] ys = none_within ys
front_within (x ∷ xs) ys = inl (refl, front_within xs ys)

pub within_within : (zs xs ys : List Word) → IsWithin zs xs → IsWithin xs ys → IsWithin zs ys
within_within [] xs ys h k = none_within ys
within_within (z ∷ zs) [] ys h k = absurd h
within_within (z ∷ zs) (x ∷ xs) [] h k = absurd k
within_within (z ∷ zs) (x ∷ xs) (y ∷ ys) h (inr k) = inr (within_within (z ∷ zs) (x ∷ xs) ys h k)
within_within (z ∷ zs) (x ∷ xs) (y ∷ ys) (inl h) (inl k) = inl (h.0 ∙ k.0, within_within zs xs ys h.1 k.1)
within_within (z ∷ zs) (x ∷ xs) (y ∷ ys) (inr h) (inl k) = inr (within_within (z ∷ zs) xs ys h k.1)

-- one more word behind both
pub pushed_within : (w : Word) (xs ys : List Word) → IsWithin xs ys → IsWithin (xs ++ w ∷ []) (ys ++ w ∷ [])
pushed_within w [] [] h = inl (refl, tt)
pushed_within w [] (y ∷ ys) h = inr (pushed_within w [] ys (none_within ys))
pushed_within w (x ∷ xs) [] h = absurd h
pushed_within w (x ∷ xs) (y ∷ ys) (inl h) = inl (h.0, pushed_within w xs ys h.1)
pushed_within w (x ∷ xs) (y ∷ ys) (inr h) = inr (pushed_within w (x ∷ xs) ys h)

kept_word : (test : Word → Bool) (x y : Word) (xs ys : List Word) → x ≡ y → test x ≡ true → IsWithin xs (filter test ys)
    → IsWithin (x ∷ xs) (filter test (y ∷ ys))
kept_word test x y xs ys e p h =
    subst (IsWithin (x ∷ xs)) (sym (cond-true (test y) (y ∷ filter test ys) (filter test ys) (sym (ap test e) ∙ p))) (inl (e, h))

behind_word : (test : Word → Bool) (y : Word) (xs ys : List Word) → IsWithin xs (filter test ys) → IsWithin xs (filter test (y ∷ ys))
behind_word test y xs ys h =
    elim (cases_Bool (test y)) [
      | inl p ↦
          subst (IsWithin xs) (sym (cond-true (test y) (y ∷ filter test ys) (filter test ys) p)) (later_within y xs (filter test ys) h)
      | inr n ↦ subst (IsWithin xs) (sym (cond-false (test y) (y ∷ filter test ys) (filter test ys) n)) h
    ]

-- among those that pass, where all of them pass
pub passing_within : (test : Word → Bool) (xs ys : List Word) → AllByRecursion (λ x. test x ≡ true) xs → IsWithin xs ys
    → IsWithin xs (filter test ys)
passing_within test [] ys a h = none_within (filter test ys)
passing_within test (x ∷ xs) [] a h = absurd h
passing_within test (x ∷ xs) (y ∷ ys) a (inl h) = kept_word test x y xs ys h.0 a.0 (passing_within test xs ys a.1 h.1)
passing_within test (x ∷ xs) (y ∷ ys) a (inr h) = behind_word test y (x ∷ xs) ys (passing_within test (x ∷ xs) ys a h)

-- ---- places

abbrev pub places : List Word → List Word → Option (List ℕ)
places ys xs = each (λ w. place_of (bytes_eq w) ys) xs

pub both_parts : {A : Type 0} (o : Option A) (r : Option (List A)) (zs : List A) → both o r ≡ Some zs
    → (x : A) × (xs : List A) × (o ≡ Some x) × (r ≡ Some xs) × (zs ≡ x ∷ xs)
both_parts None r zs h = absurd cc
both_parts (Some x) None zs h = absurd cc
both_parts {A} (Some x) (Some xs) zs h = (x, xs, refl, refl, sym (same_Some (x ∷ xs) zs h))

-- a word that has a place behind y is another one
behind_place : (y x : Word) (ys : List Word) (j : ℕ) → list_any (bytes_eq y) ys ≡ false → place_of (bytes_eq x) ys ≡ Some j
    → place_of (bytes_eq x) (y ∷ ys) ≡ Some (suc j)
behind_place y x ys j absent h =
    elim (cases_Bool (bytes_eq x y)) [
      | inl e ↦
          let none : place_of (bytes_eq x) ys ≡ None =
          place_of-absent (bytes_eq x) ys (ap (λ w. list_any (bytes_eq w) ys) (same_bytes x y e) ∙ absent) in
          absurd (let no : Some j ≡ None = sym h ∙ none in cc)
      | inr n ↦ cond-false (bytes_eq x y) (Some 0) _ n ∙ ap (λ o. option_map (λ n. suc n) o) h
    ]

behind_places : (y : Word) (xs ys : List Word) (js : List ℕ) → list_any (bytes_eq y) ys ≡ false → places ys xs ≡ Some js
    → places (y ∷ ys) xs ≡ Some (map (λ j. suc j) js)
behind_places y [] ys js absent h = ap (λ o. Some (map (λ j. suc j) o)) (same_Some [] js h)
behind_places y (x ∷ xs) ys js absent h =
    let parts = both_parts (place_of (bytes_eq x) ys) (places ys xs) js h in
    ap (λ o. both o (places (y ∷ ys) xs)) (behind_place y x ys parts.0 absent parts.2)
    ∙ ap (both (Some (suc parts.0))) (behind_places y xs ys parts.1 absent parts.3)
    ∙ ap (λ l. Some (map (λ j. suc j) l)) (sym parts.4)

rises_on : (a : ℕ) (js : List ℕ) → Rises a js → Rises (a + 1) (map (λ j. suc j) js)
rises_on a [] h = tt
rises_on a (j ∷ js) h = (omega (arith, h.0), subst (λ n. Rises (n + 1) (map (λ j. suc j) js)) (omega arith) (rises_on (j + 1) js h.1))

rises_from : (a b : ℕ) (js : List ℕ) → a ≤ b → Rises b js → Rises a js
rises_from a b [] le h = tt
rises_from a b (j ∷ js) le h = (omega (arith, le, h.0), h.1)

-- of words that differ the places ascend
pub places_rise : (xs ys : List Word) → Distinct bytes_eq ys → IsWithin xs ys → (js : List ℕ) × (places ys xs ≡ Some js) × Rises 0 js
places_rise [] ys d h = ([], refl, tt)
places_rise (x ∷ xs) [] d h = absurd h
places_rise (x ∷ xs) (y ∷ ys) d (inl h) =
    let later = places_rise xs ys d.1 h.1 in
    let first : place_of (bytes_eq x) (y ∷ ys) ≡ Some 0 =
    cond-true (bytes_eq x y) (Some 0) _ (ap (bytes_eq x) (sym h.0) ∙ bytes_eq-same x) in (
      0 ∷ map (λ j. suc j) later.0,
      ap (λ o. both o (places (y ∷ ys) xs)) first ∙ ap (both (Some 0)) (behind_places y xs ys later.0 d.0 later.1),
      (omega arith, rises_on 0 later.0 later.2),
    )
places_rise (x ∷ xs) (y ∷ ys) d (inr h) =
    let later = places_rise (x ∷ xs) ys d.1 h in (
      map (λ j. suc j) later.0,
      behind_places y (x ∷ xs) ys later.0 d.0 later.1,
      rises_from 0 (0 + 1) (map (λ j. suc j) later.0) (omega arith) (rises_on 0 later.0 later.2),
    )
