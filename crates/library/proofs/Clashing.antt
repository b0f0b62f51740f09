-- Which labels clash with those of a library, and libraries whose labels are apart.
use Rattle.std.proofs.Common.{◌≡◌, ℕ, Bool, true, false, cond, List, [], ◌∷◌, get_or, map, refl, sym, ap, subst, ◌∙◌, inl, inr}
use Rattle.std.specs.Prelude.{filter, ◌&&◌, ◌||◌}
use mathlib.Core.Bool.{not}
use Rattle.std.specs.List.{list_any, Contains}
use Rattle.std.specs.Str.{bytes_eq}
use Rattle.std.proofs.lemmas.Bool.{cases_Bool, cond-true, not-true, not_from_false, or_parts}
use Rattle.std.proofs.lemmas.List.Elements.{All-contains, Contains-get_or, filter_passes}
use Rattle.std.proofs.lemmas.List.Folds.{list_any_at, list_any_none, Any-from_list_any}
use Rattle.mmsyntax.specs.Dotted.{clash, ClashNowhere}
use Rattle.mmsyntax.proofs.Apart.{apart_cons, apart_with, apart_within}
use Rattle.mmsyntax.proofs.Distinct.{any-map}
use Rattle.derivation.specs.Laws.{replacing}
use Rattle.library.specs.declared.library.Ranked.{Ranked}
use Rattle.library.specs.Library.{label_of}
use Rattle.library.specs.Edits.{is_labelled, has, clashes, without}
use Rattle.library.proofs.Citations.{none_contained}
use Rattle.library.proofs.Filtered.{contained_filter, contains_filtered, contains_mapped, contains_unmapped}
use Rattle.library.proofs.Labels.{replacing-old, replacing-other}

-- ---- what clashes

-- no assertion clashes where none is found
pub clashes_with_none : (lib : List Ranked) (label : List ℕ) (e : Ranked) → clashes lib label ≡ false → Contains lib e
    → clash (label_of e) label ≡ false
clashes_with_none lib label e h at = none_contained (λ f. clash (label_of f) label) lib e h at

pub clashes_at : (lib : List Ranked) (label : List ℕ) (e : Ranked) → Contains lib e → clash (label_of e) label ≡ true
    → clashes lib label ≡ true
clashes_at lib label e at h =
    list_any_at (λ f. clash (label_of f) label) lib at.0 e at.1 (ap (λ (f : Ranked). clash (label_of f) label) at.2 ∙ h)

pub clashes_somewhere : (lib : List Ranked) (label : List ℕ) → clashes lib label ≡ true
    → (e : Ranked) × Contains lib e × (clash (label_of e) label ≡ true)
clashes_somewhere lib label h =
    let at = Any-from_list_any (λ e. clash (label_of e) label) lib h in
    (at.1, (at.0, at.2, at.3), at.4)

pub clashes-labels : (lib : List Ranked) (label : List ℕ) → list_any (λ l. clash l label) (map label_of lib) ≡ clashes lib label
clashes-labels lib label = any-map (λ l. clash l label) label_of lib

-- ---- one left out

any-filter : {A : Type 0} (p q : A → Bool) (xs : List A) → list_any q (filter p xs) ≡ list_any (λ x. p x && q x) xs
any-filter p q [] = refl
any-filter p q (x ∷ xs) =
    let later = any-filter p q xs in
    elim (p x) as (λ b. list_any q (cond b (x ∷ filter p xs) (filter p xs)) ≡ (b && q x || list_any (λ y. p y && q y) xs)) [
      | true ↦ ap (λ b. q x || b) later
      | false ↦ later
    ]

-- whether the label clashes with that of another assertion than the one left out
pub clashes-without : (lib : List Ranked) (own label : List ℕ)
    → clashes (without own lib) label ≡ list_any (λ e. not (is_labelled own e) && clash (label_of e) label) lib
clashes-without lib own label = any-filter (λ e. not (is_labelled own e)) (λ e. clash (label_of e) label) lib

pub clashes_without_at : (lib : List Ranked) (own label : List ℕ) (e : Ranked) → Contains lib e → is_labelled own e ≡ false
    → clash (label_of e) label ≡ true → clashes (without own lib) label ≡ true
clashes_without_at lib own label e at other h =
    let left = contains_filtered (λ f. not (is_labelled own f)) lib e at (not_from_false (is_labelled own e) other) in
    clashes_at (without own lib) label e left h

pub clashes_without_somewhere : (lib : List Ranked) (own label : List ℕ) → clashes (without own lib) label ≡ true
    → (e : Ranked) × Contains lib e × (is_labelled own e ≡ false) × (clash (label_of e) label ≡ true)
clashes_without_somewhere lib own label h =
    let kept = λ (f : Ranked). not (is_labelled own f) in
    let some = clashes_somewhere (without own lib) label h in
    let e = some.0 in
    let passes : kept e ≡ true = All-contains (λ f. kept f ≡ true) (without own lib) e (filter_passes kept lib) some.1 in
    (e, contained_filter kept lib e some.1, not-true (is_labelled own e) passes, some.2)

-- nothing is left out where no assertion has the label
pub without-absent : (lib : List Ranked) (label : List ℕ) → has lib label ≡ false → without label lib ≡ lib
without-absent [] label h = refl
without-absent (e ∷ lib) label h =
    let both = or_parts (is_labelled label e) (has lib label) h in
    cond-true (not (is_labelled label e)) (e ∷ without label lib) (without label lib) (not_from_false (is_labelled label e) both.0)
    ∙ ap (λ es. e ∷ es) (without-absent lib label both.1)

-- ---- labels apart

-- assertions among some whose labels are apart
pub apart_among : (lib other : List Ranked) → ((e : Ranked) → Contains other e → Contains lib e) → ClashNowhere (map label_of lib)
    → ClashNowhere (map label_of other)
apart_among lib other among h =
    apart_within (map label_of lib) (map label_of other) (λ w w_in.
    let e = contains_unmapped label_of other w w_in in
    subst (Contains (map label_of lib)) e.2 (contains_mapped label_of lib e.0 (among e.0 e.1))) h

-- one more in front
pub apart_front : (lib : List Ranked) (e : Ranked) → clashes lib (label_of e) ≡ false → ClashNowhere (map label_of lib)
    → ClashNowhere (map label_of (e ∷ lib))
apart_front lib e clear h = apart_cons (label_of e) (map label_of lib) (clashes-labels lib (label_of e) ∙ clear) h

-- a label in the place of one, where it clashes with none of the others
pub apart_replaced : (lib : List Ranked) (old new : List ℕ) → clashes (without old lib) new ≡ false → ClashNowhere (map label_of lib)
    → ClashNowhere (map (replacing old new) (map label_of lib))
apart_replaced lib old new clear h =
    let ls = map label_of lib in
    apart_with ls (map (replacing old new) ls) new (λ w w_in.
    let l = contains_unmapped (replacing old new) ls w w_in in
    let e = contains_unmapped label_of lib l.0 l.1 in
    elim (cases_Bool (is_labelled old e.0)) [
      | inl is ↦ inl (sym l.2 ∙ replacing-old old new l.0 (subst (λ x. bytes_eq old x ≡ true) e.2 is))
      | inr other ↦
          let same : l.0 ≡ w = sym (replacing-other old new l.0 (subst (λ x. bytes_eq old x ≡ false) e.2 other)) ∙ l.2 in
          let left = contains_filtered (λ f. not (is_labelled old f)) lib e.0 e.1 (not_from_false (is_labelled old e.0) other) in
          inr (
            subst (Contains ls) same l.1,
            subst (λ x. clash x new ≡ false) (e.2 ∙ same) (clashes_with_none (without old lib) new e.0 clear left),
          )
    ]) h
