-- States that show what a change makes of the assertions of a library, each in its slot.
use Rattle.std.proofs.Common.{◌≡◌, ◌≢◌, ℕ, ◌*◌, ◌<◌, ◌≤◌, true, List, [], ◌∷◌, map, refl, sym, ap, subst, ◌∙◌, nat_eq, ⊎_elim, inl, inr, arith}
use Rattle.std.specs.Prelude.{IsPermutation}
use Rattle.std.specs.Str.{bytes_eq}
use Rattle.std.proofs.lemmas.Bool.{cases_eq, cond-true, cond-false, cond_both}
use Rattle.std.proofs.lemmas.List.Sorted.{IsPermutation-refl}
use Rattle.mmsyntax.specs.Assertions.{Distinct}
use Rattle.library.specs.declared.library.Ranked.{Ranked}
use Rattle.library.specs.Library.{label_of}
use Rattle.library.specs.Edits.{is_labelled, changed}
use Rattle.library.proofs.Changing.{change_at}
use Rattle.library.proofs.Places.{is_labelled-own}
use Rattle.ranges.specs.Ranges.{Has, AreOfOneStore}
use Rattle.cells.specs.State.{State, most_words}
use Rattle.cells.specs.Slots.{bucket_cell, next_cell}
use Rattle.cells.specs.Shows.{Held, slots_of, entries_of, Holds, IsEmpty, AreChained, Shows}
use Rattle.cells.specs.Lookups.{IsFoundAt}
use Rattle.ranges.proofs.Members.{all_from_has, mapped_has}
use Rattle.cells.proofs.Linking.{seat, chains_alike, chains_kept}
use Rattle.cells.proofs.Found.{found_label, found_here, other_label}

-- chains stay where the cells behind the slots do
pub chains_stay : (slots : ℕ) (st next : State) (held : List Held) → ((c : ℕ) → 5 * slots ≤ c → next.value c ≡ st.value c)
    → AreChained slots st held → AreChained slots next held
chains_stay slots st next held same chained =
    chains_kept slots st next held (λ b lt. same (bucket_cell slots b) (omega arith))
    (λ i h. same (next_cell slots i) (omega arith)) chained

-- the assertion in a slot, changed
abbrev pub with_entry : (Ranked → Ranked) → Held → Held
with_entry g p = record { slot = p.slot; entry = g p.entry }

module _ (slots : ℕ) (st next : State) (lib : List Ranked) (shows : Shows slots st lib) where
  module _ (g : Ranked → Ranked) where
    slots_mapped : (held : List Held) → slots_of (map (with_entry g) held) ≡ slots_of held
    slots_mapped [] = refl
    slots_mapped (p ∷ held) = ap (λ l. p.slot ∷ l) (slots_mapped held)

    entries_mapped : (held : List Held) → entries_of (map (with_entry g) held) ≡ map g (entries_of held)
    entries_mapped [] = refl
    entries_mapped (p ∷ held) = ap (λ l. g p.entry ∷ l) (entries_mapped held)

    -- each assertion is held, changed; what was empty is empty; and the chains are those of the changed ones
    pub shows_mapped : ((p : Held) → Has p shows.held → Holds slots next (map g lib) p.slot (g p.entry))
        → ((i : ℕ) → i < slots → IsEmpty slots st i → IsEmpty slots next i) → AreChained slots next (map (with_entry g) shows.held)
        → Shows slots next (map g lib)
    shows_mapped each empties chained =
        record {
          held = map (with_entry g) shows.held;
          library = entries_mapped shows.held ∙ ap (map g) shows.library;
          holds = all_from_has (λ (q : Held). Holds slots next (map g lib) q.slot q.entry) (map (with_entry g) shows.held) (λ q h.
              let m = mapped_has (with_entry g) shows.held q h in
              subst (λ (r : Held). Holds slots next (map g lib) r.slot r.entry) (sym m.2) (each m.0 m.1));
          apart = subst (Distinct nat_eq) (sym (slots_mapped shows.held)) shows.apart;
          others = λ i lt. ⊎_elim (λ h. inl (subst (Has i) (sym (slots_mapped shows.held)) h)) (λ e. inr (empties i lt e))
              (shows.others i lt);
          chained = chained;
        }

    -- chains are of slots with labels
    pub chains_mapped : ((e : Ranked) → label_of (g e) ≡ label_of e) → AreChained slots next shows.held
        → AreChained slots next (map (with_entry g) shows.held)
    chains_mapped keeps chained =
        chains_alike slots next shows.held (map (with_entry g) shows.held)
        (subst (IsPermutation (map (seat slots) shows.held)) (sym (seats shows.held))
        (IsPermutation-refl (map (seat slots) shows.held))) chained
      where
        seats : (held : List Held) → map (seat slots) (map (with_entry g) held) ≡ map (seat slots) held
        seats [] = refl
        seats (p ∷ held) =
            let same = keeps p.entry in
            let rest = seats held in
            λ k. (p.slot, same k) ∷ rest k

  -- the assertion with a label is changed, but for its label, and is held as it is then
  pub shows_changed : (store : AreOfOneStore most_words st.ranges) → (apart : Distinct bytes_eq (map label_of lib))
      → (label : List ℕ) (i : ℕ)
      → (at : IsFoundAt slots st lib label i) → (change : Ranked → Ranked) → ((e : Ranked) → label_of (change e) ≡ label_of e)
      → Holds slots next (changed label change lib) i (change at.entry)
      → ((p : Held) → Has p shows.held → p.slot ≢ i → Holds slots next (changed label change lib) p.slot p.entry)
      → ((j : ℕ) → j < slots → IsEmpty slots st j → IsEmpty slots next j) → AreChained slots next shows.held
      → Shows slots next (changed label change lib)
  shows_changed store apart label i at change keeps here others empties chained =
      shows_mapped (change_at label change)
      (λ p h. elim (cases_eq p.slot i) [
        | inl is ↦
            let same = found_here slots st lib shows store apart label i at p h is in
            let own : is_labelled label p.entry ≡ true =
            is_labelled-own label p.entry (ap label_of same ∙ found_label slots st lib shows store apart label i at) in
            let now : change at.entry ≡ change_at label change p.entry =
            ap change (sym same) ∙ sym (cond-true (is_labelled label p.entry) (change p.entry) p.entry own) in
            let slot = sym is in
            subst (λ (q : Held). Holds slots next (changed label change lib) q.slot q.entry) (λ k. record {
              slot = slot k;
              entry =
                  now k;
            }) here
        | inr ne ↦
            subst (Holds slots next (changed label change lib) p.slot)
            (sym (cond-false (is_labelled label p.entry) (change p.entry) p.entry
            (other_label slots st lib shows store apart label i at p h ne)))
            (others p h ne)
      ])
      empties
      (chains_mapped (change_at label change)
      (λ e. cond_both (is_labelled label e) (change e) e (λ x. label_of x ≡ label_of e) (λ y. keeps e) (λ n. refl)) chained)
