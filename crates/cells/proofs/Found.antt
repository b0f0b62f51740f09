-- The assertion that is found in a slot is the one that is held there.
use Rattle.std.proofs.Common.{◌≡◌, ◌≢◌, ℕ, ◌≤◌, false, List, [], ◌∷◌, Some, None, length, map, refl, sym, ap, subst, ◌∙◌, inl, inr}
use Rattle.std.specs.Prelude.{◌==◌}
use Rattle.std.specs.Str.{bytes_eq}
use Rattle.std.proofs.lemmas.Bool.{cases_Bool, cond-true, cond-false, or_from, cases_eq, eq-eqb, ne_eqb, false_from_ne_true}
use Rattle.std.proofs.lemmas.List.{length-map}
use Rattle.std.proofs.lemmas.List.Sums.{count_by-le-length}
use Rattle.mmsyntax.specs.Assertions.{Distinct}
use Rattle.mmsyntax.proofs.Names.{same_bytes}
use Rattle.library.specs.declared.library.Ranked.{Ranked}
use Rattle.library.specs.Library.{label_of}
use Rattle.library.specs.Edits.{is_labelled, cites, has, found}
use Rattle.library.proofs.Places.{is_labelled-own, found_in, found_one}
use Rattle.ranges.specs.Ranges.{Has, AreOfOneStore}
use Rattle.cells.specs.State.{State, most_words}
use Rattle.cells.specs.Slots.{citers_cell}
use Rattle.cells.specs.Shows.{Held, IsNamed, Holds, Shows}
use Rattle.cells.specs.Lookups.{IsFoundAt}
use Rattle.ranges.proofs.Members.{contains_from_has, all_has, has_from_contains, mapped_has}
use Rattle.cells.proofs.Linking.{one_held}
use Rattle.cells.proofs.Holding.{named_held, held_in, one_label}

-- a label that is not found is no assertion's
pub unfound : (lib : List Ranked) (label : List ℕ) → found lib label ≡ None → has lib label ≡ false
unfound [] label h = refl
unfound (e ∷ lib) label h =
    elim (cases_Bool (is_labelled label e)) [
      | inl so ↦ let some : Some e ≡ None = sym (cond-true (is_labelled label e) (Some e) (found lib label) so) ∙ h in absurd cc
      | inr other ↦
          or_from (is_labelled label e) (has lib label) other
          (unfound lib label (sym (cond-false (is_labelled label e) (Some e) (found lib label) other) ∙ h))
    ]

module _ (slots : ℕ) (st : State) (lib : List Ranked) (shows : Shows slots st lib) where
  -- as many are held as the library has
  pub length_held : length shows.held ≡ length lib
  length_held = sym (length-map shows.held (λ (p : Held). p.entry)) ∙ ap (λ (es : List Ranked). length es) shows.library

  pub held_holds : (p : Held) → Has p shows.held → Holds slots st lib p.slot p.entry
  held_holds p h = all_has (λ (q : Held). Holds slots st lib q.slot q.entry) shows.held p shows.holds h

  -- none has more citers than there are assertions
  pub few_citers : (p : Held) → Has p shows.held → st.value (citers_cell p.slot) ≤ length lib
  few_citers p h =
      let holds = held_holds p h in
      subst (λ n. n ≤ length lib) (sym holds.citers) (count_by-le-length (cites (label_of p.entry)) lib)

  -- each assertion of the library has a slot
  pub entry_slot : (e : Ranked) → Has e lib → (p : Held) × Has p shows.held × (p.entry ≡ e)
  entry_slot e h =
      let m = mapped_has (λ (p : Held). p.entry) shows.held e (subst (Has e) (sym shows.library) h) in
      (m.0, m.1, sym m.2)

  module _ (store : AreOfOneStore most_words st.ranges) (apart : Distinct bytes_eq (map label_of lib)) (label : List ℕ) (i : ℕ)
      (at : IsFoundAt slots st lib label i) where
    pub found_label : label_of at.entry ≡ label
    found_label = sym (found_in lib label at.entry at.found).1

    pub found_named : IsNamed slots st i label
    found_named = subst (IsNamed slots st i) found_label at.holds.name

    pub found_has : Has at.entry lib
    found_has = has_from_contains lib at.entry (found_in lib label at.entry at.found).0

    -- what is found in the slot is held by it
    pub found_held : Has (record { slot = i; entry = at.entry }) shows.held
    found_held =
        let p = named_held slots st lib shows store i (label_of at.entry) at.holds.name in
        let same : p.0.entry ≡ at.entry =
        found_one lib label at.entry p.0.entry apart at.found (contains_from_has lib p.0.entry (held_in slots st lib shows store p.0 p.1))
        (is_labelled-own label p.0.entry (p.3 ∙ found_label)) in
        let slot = p.2 in
        subst (λ (q : Held). Has q shows.held) (λ k. record { slot = slot k; entry = same k }) p.1

    -- no other slot holds it
    pub found_here : (p : Held) → Has p shows.held → p.slot ≡ i → p.entry ≡ at.entry
    found_here p h is = ap (λ (q : Held). q.entry)
        (one_held shows.held p (record { slot = i; entry = at.entry }) shows.apart h found_held is)

    pub found_only : (p : Held) → Has p shows.held → label_of p.entry ≡ label → p.slot ≡ i
    found_only p h is =
        ap (λ (q : Held). q.slot)
        (one_label slots st lib shows store apart p (record { slot = i; entry = at.entry }) h found_held (is ∙ sym found_label))

    pub other_label : (p : Held) → Has p shows.held → p.slot ≢ i → is_labelled label p.entry ≡ false
    other_label p h ne =
        false_from_ne_true (is_labelled label p.entry) (λ z. ne (found_only p h (sym (same_bytes label (label_of p.entry) z))))

    -- so the slot tells the label
    pub slot_or_label : (p : Held) → Has p shows.held → (p.slot == i) ≡ is_labelled label p.entry
    slot_or_label p h =
        elim (cases_eq p.slot i) [
          | inl is ↦ eq-eqb p.slot i is ∙ sym (is_labelled-own label p.entry (ap label_of (found_here p h is) ∙ found_label))
          | inr ne ↦ ne_eqb p.slot i ne ∙ sym (other_label p h ne)
        ]

    pub found_entry : (e : Ranked) → found lib label ≡ Some e → at.entry ≡ e
    found_entry e is = let same : Some at.entry ≡ Some e = sym at.found ∙ is in cc
