-- What a look-up of a label answers, by the place of the assertion that has it.
use Rattle.std.proofs.Common.{◌≡◌, ◌≢◌, ℕ, zero, suc, ◌<◌, true, false, List, [], ◌∷◌, Some, None, length, get_or, map, refl, sym, ap}
use Rattle.std.proofs.Common.{subst, ◌∙◌, inl, inr, arith}
use Rattle.std.specs.List.{list_any, find, slice_get, All, Any, Contains}
use Rattle.std.specs.Str.{bytes_eq}
use Rattle.std.proofs.lemmas.Bool.{cases_order, cases_Bool, cond-true, cond-false, false_from_ne_true}
use Rattle.std.proofs.lemmas.List.{length-map, get_or-map}
use Rattle.std.proofs.lemmas.List.Elements.{Contains-append_right}
use Rattle.std.proofs.lemmas.List.Folds.{list_any_none, list_any_at, Any-from_list_any}
use Rattle.std.proofs.lemmas.Option.{slice_get_within, get_or_from_slice_get}
use Rattle.mmsyntax.specs.Assertions.{Distinct}
use Rattle.mmsyntax.proofs.Names.{same_bytes, bytes_eq-same, bytes_eq-sym}
use Rattle.mmsyntax.proofs.Distinct.{or_false, any_at, any-map}
use Rattle.library.specs.declared.library.Ranked.{Ranked}
use Rattle.library.specs.Library.{label_of}
use Rattle.library.specs.Edits.{is_labelled, has, found}
use Rattle.library.proofs.Labels.{one_place}

pub is_labelled-own : (label : List ℕ) (e : Ranked) → label_of e ≡ label → is_labelled label e ≡ true
is_labelled-own label e h = subst (λ l. bytes_eq label l ≡ true) (sym h) (bytes_eq-same label)

-- ---- whether there is one

pub has_at : (lib : List Ranked) (label : List ℕ) (i : ℕ) (d : Ranked) → i < length lib → label_of (get_or lib i d) ≡ label
    → has lib label ≡ true
has_at lib label i d lt h = list_any_at (is_labelled label) lib i d lt (is_labelled-own label (get_or lib i d) h)

pub has_somewhere : (lib : List Ranked) (label : List ℕ) → has lib label ≡ true → Any (λ e. label_of e ≡ label) lib
has_somewhere lib label h =
    let at = Any-from_list_any (is_labelled label) lib h in
    (at.0, at.1, at.2, at.3, sym (same_bytes label (label_of at.1) at.4))

pub has_nowhere : (lib : List Ranked) (label : List ℕ) → All (λ e. label_of e ≢ label) lib → has lib label ≡ false
has_nowhere lib label h =
    list_any_none (is_labelled label) lib (λ i d lt.
    let e = get_or lib i d in
    false_from_ne_true (is_labelled label e) (λ y. h i d lt (sym (same_bytes label (label_of e) y))))

pub has-labels : (lib : List Ranked) (label : List ℕ) → list_any (bytes_eq label) (map label_of lib) ≡ has lib label
has-labels lib label = any-map (bytes_eq label) label_of lib

-- ---- which it is

-- entries at different places have different labels
pub labels_apart : (lib : List Ranked) → Distinct bytes_eq (map label_of lib) → (i k : ℕ) (d : Ranked) → i < length lib → k < length lib
    → (k ≡ i → ⊥) → label_of (get_or lib k d) ≡ label_of (get_or lib i d) → ⊥
labels_apart lib apart i k d i_in k_in ne e =
    let ls = map label_of lib in
    let n = length-map lib label_of in
    let same : get_or ls k [] ≡ get_or ls i [] = get_or-map label_of lib k d [] k_in ∙ e ∙ sym (get_or-map label_of lib i d [] i_in) in
    elim (cases_order i k) [
      | inl eq ↦ ne (sym eq)
      | inr o ↦ elim o [
        | inl lt ↦ one_place ls apart i k [] lt (omega arith) (sym same)
        | inr gt ↦ one_place ls apart k i [] gt (omega arith) same
      ]
    ]

-- where labels differ, the first with a label is the one at its place
pub find_at : (lib : List Ranked) (label : List ℕ) (i : ℕ) (d : Ranked) → Distinct bytes_eq (map label_of lib) → i < length lib
    → label_of (get_or lib i d) ≡ label
    → find (is_labelled label) lib ≡ Some (get_or lib i d)
find_at [] label i d apart lt h = absurd (omega arith)
find_at (e ∷ lib) label zero d apart lt h =
    cond-true (is_labelled label e) (Some e) (find (is_labelled label) lib) (is_labelled-own label e h)
find_at (e ∷ lib) label (suc i) d apart lt h =
    let l = label_of (get_or lib i d) in
    let none_later = sym (has-labels lib (label_of e)) ∙ apart.0 in
    let other : bytes_eq l (label_of e) ≡ false =
    bytes_eq-sym l (label_of e) ∙ any_at (is_labelled (label_of e)) lib i d none_later (omega arith) in
    cond-false (is_labelled label e) (Some e) (find (is_labelled label) lib) (subst (λ x. bytes_eq x (label_of e) ≡ false) h other)
    ∙ find_at lib label i d apart.1 (omega arith) h

pub find_nowhere : (lib : List Ranked) (label : List ℕ) → has lib label ≡ false → find (is_labelled label) lib ≡ None
find_nowhere [] label h = refl
find_nowhere (e ∷ lib) label h =
    let both = or_false (is_labelled label e) (has lib label) h in
    cond-false (is_labelled label e) (Some e) (find (is_labelled label) lib) both.0 ∙ find_nowhere lib label both.1

-- the same, by the entry at the place
pub find_entry : (lib : List Ranked) (label : List ℕ) (i : ℕ) (e : Ranked) → Distinct bytes_eq (map label_of lib)
    → slice_get lib i ≡ Some e → label_of e ≡ label
    → find (is_labelled label) lib ≡ Some e
find_entry lib label i e apart at h =
    let here = get_or_from_slice_get lib i e e at in
    find_at lib label i e apart (slice_get_within lib i e at) (ap label_of here ∙ h) ∙ ap (λ x. Some x) here

-- an entry of the list is found by its label
pub found_own : (lib : List Ranked) (e : Ranked) → Distinct bytes_eq (map label_of lib) → Contains lib e → found lib (label_of e) ≡ Some e
found_own lib e apart at = find_at lib (label_of e) at.0 e apart at.1 (ap label_of at.2) ∙ ap (λ x. Some x) at.2

-- what is found is an entry of the list, with the label
pub found_in : (lib : List Ranked) (label : List ℕ) (e : Ranked) → found lib label ≡ Some e → Contains lib e × (label ≡ label_of e)
found_in [] label e h = absurd cc
found_in (x ∷ lib) label e h =
    elim (cases_Bool (is_labelled label x)) [
      | inl y ↦
          let same : x ≡ e = cc (cond-true (is_labelled label x) (Some x) (found lib label) y) in
          ((0, omega arith, same), same_bytes label (label_of x) y ∙ ap label_of same)
      | inr n ↦
          let later = found_in lib label e (sym (cond-false (is_labelled label x) (Some x) (found lib label) n) ∙ h) in
          (Contains-append_right (x ∷ []) lib e later.0, later.1)
    ]

-- an entry with the label is the one that is found
pub found_one : (lib : List Ranked) (label : List ℕ) (e f : Ranked) → Distinct bytes_eq (map label_of lib) → found lib label ≡ Some e
    → Contains lib f → is_labelled label f ≡ true → f ≡ e
found_one lib label e f apart h at is =
    let own = subst (λ l. found lib l ≡ Some f) (sym (same_bytes label (label_of f) is)) (found_own lib f apart at) in
    cc
