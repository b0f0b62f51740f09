-- A state that shows a library, with another label in the name cell of one slot and the slot in that label's chain, shows the library with
-- the assertion renamed.
use Rattle.std.proofs.Common.{◌≡◌, ◌≢◌, ℕ, ◌*◌, ◌<◌, true, false, List, ◌∷◌, map, sym, subst, ◌∙◌, ⊎_elim, inl, inr, arith}
use Rattle.std.specs.Prelude.{IsPermutation, ◌==◌}
use mathlib.Core.Bool.{not}
use Rattle.std.specs.Str.{bytes_eq}
use Rattle.std.proofs.lemmas.Bool.{cases_eq, false_from_ne_true, eqb-false, not-true}
use Rattle.std.proofs.lemmas.List.Sorted.{IsPermutation-map, IsPermutation-sym}
use Rattle.std.proofs.lemmas.Simd.{map-map}
use Rattle.mmsyntax.specs.Assertions.{Distinct}
use Rattle.mmsyntax.proofs.Names.{same_bytes, bytes_eq-same}
use Rattle.derivation.specs.Laws.{replacing}
use Rattle.library.specs.declared.library.Ranked.{Ranked}
use Rattle.library.specs.Library.{label_of}
use Rattle.library.specs.Edits.{has, is_labelled, cites, rename}
use Rattle.library.proofs.Citations.{none_contained}
use Rattle.library.proofs.Counts.{none_from_count}
use Rattle.library.proofs.Labels.{replacing-old, replacing-other}
use Rattle.library.proofs.Renaming.{renamed_entry}
use Rattle.ranges.specs.Ranges.{Has, AreOfOneStore}
use Rattle.bodystore.specs.Bodies.{label_body}
use Rattle.cells.specs.State.{State, HasBody, most_words}
use Rattle.cells.specs.Slots.{name_cell, statement_cell, proof_cell, rank_cell, citers_cell, next_cell}
use Rattle.cells.specs.Shows.{Held, slots_of, IsNamed, IsEmpty, AreChained, Holds, Shows}
use Rattle.cells.specs.Lookups.{IsFoundAt}
use Rattle.chains.specs.Chains.{Rechains, without_slot}
use Rattle.cells.proofs.Bodies.{one_body}
use Rattle.cells.proofs.Found.{held_holds, found_held, found_label, found_only, other_label}
use Rattle.cells.proofs.Holding.{body_same, empty_same, empty_free, full_slot, held_in, named_held, no_citers}
use Rattle.cells.proofs.Linking.{seat, chains_alike}
use Rattle.ranges.proofs.Members.{contains_from_has, filtered_has}
use Rattle.cells.proofs.Ones.{map_agree}
use Rattle.chains.proofs.Unlinking.{slot_and_others}
use Rattle.cells.proofs.Recounting.{citers-renamed}
use Rattle.cells.proofs.Showing.{chains_stay, with_entry, shows_mapped}
use Rattle.cells.proofs.Storing.{proof_relabelled}
use Rattle.chains.proofs.Unlinking.{slot_was}

-- the name cell of the slot names the body of the new label, in the state named
module _ (slots : ℕ) (st named : State) (lib : List Ranked) (shows : Shows slots st lib) (store : AreOfOneStore most_words st.ranges)
    (apart : Distinct bytes_eq (map label_of lib)) (old new : List ℕ) (i : ℕ) (at : IsFoundAt slots st lib old i)
    (others : (c : ℕ) → c ≢ name_cell i → named.value c ≡ st.value c) where
  in_slots : i < slots
  in_slots = at.holds.name.within

  -- so the chains are as they were
  pub still_chained : AreChained slots named shows.held
  still_chained = chains_stay slots st named shows.held (λ c up. others c (λ z. omega (arith, up, in_slots, z))) shows.chained

  -- the slot is taken out of the one chain, and put into the other
  module _ (out next : State) (f : Ranked) (is_new : label_of f ≡ new) (free : has lib new ≡ false) (named_ranges : named.ranges
      ≡ st.ranges)
      (ranges : next.ranges ≡ st.ranges) (name : HasBody named (name_cell i) (label_body new))
      (leaves : Rechains slots named out shows.held (without_slot i shows.held))
      (enters : Rechains slots out next (without_slot i shows.held) (record { slot = i; entry = f } ∷ without_slot i shows.held)) where
    abbrev own : Held
    own = record { slot = i; entry = at.entry }

    own_held : Has own shows.held
    own_held = found_held slots st lib shows store apart old i at

    low : (c : ℕ) → c < 5 * slots → next.value c ≡ named.value c
    low c lt = enters.cells c lt ∙ leaves.cells c lt

    same : (c : ℕ) → c < 5 * slots → c ≢ name_cell i → next.value c ≡ st.value c
    same c lt ne = low c lt ∙ others c ne

    -- each slot has the label that its label became
    names : (j : ℕ) (l : List ℕ) → IsNamed slots st j l → IsNamed slots next j (replacing old new l)
    names j l n = record { within = n.within; body = elim (cases_eq j i) [ inl is ↦ here is | inr ne ↦ there ne ] }
      where
        here : j ≡ i → HasBody next (name_cell j) (replacing old new l)
        here is =
            let own_label : label_of at.entry ≡ l =
            one_body st (name_cell i) (label_of at.entry) l store at.holds.name.body (subst (λ m. HasBody st (name_cell m) l) is n.body) in
            let now : replacing old new l ≡ new =
            replacing-old old new l
            (subst (λ x. bytes_eq old x ≡ true) (sym (found_label slots st lib shows store apart old i at) ∙ own_label)
            (bytes_eq-same old)) in
            let body = body_same named next (name_cell i) new (ranges ∙ sym named_ranges)
            (low (name_cell i) (omega (arith, in_slots))) name in
            subst (λ m. HasBody next (name_cell m) (replacing old new l)) (sym is) (subst (HasBody next (name_cell i)) (sym now) body)

        there : (j ≡ i → ⊥) → HasBody next (name_cell j) (replacing old new l)
        there ne =
            let p = named_held slots st lib shows store j l n in
            let other : bytes_eq old l ≡ false =
            false_from_ne_true (bytes_eq old l) (λ so.
            ne (sym p.2 ∙ found_only slots st lib shows store apart old i at p.0 p.1 (p.3 ∙ sym (same_bytes old l so)))) in
            let lt = n.within in
            subst (HasBody next (name_cell j)) (sym (replacing-other old new l other))
            (body_same st next (name_cell j) l ranges (same (name_cell j) (omega (arith, lt)) (λ z. ne (omega (arith, z)))) n.body)

    -- no proof cites the new label
    cites_none : (e : Ranked) → Has e lib → cites new e ≡ false
    cites_none e h =
        none_contained (cites new) lib e (none_from_count (cites new) lib (no_citers slots st lib shows store new free))
        (contains_from_has lib e h)

    renamed_holds : (p : Held) → Has p shows.held → Holds slots next (rename old new lib) p.slot (renamed_entry old new p.entry)
    renamed_holds p h =
        let holds = held_holds slots st lib shows p h in
        let lt = holds.name.within in
        let unlike : bytes_eq new (label_of p.entry) ≡ false =
        none_contained (is_labelled new) lib p.entry free (contains_from_has lib p.entry (held_in slots st lib shows store p h)) in
        record {
          name = names p.slot (label_of p.entry) holds.name;
          statement = body_same st next (statement_cell p.slot) _ ranges
              (same (statement_cell p.slot) (omega (arith, lt)) (λ z. omega (arith, z)))
              holds.statement;
          proof = proof_relabelled slots st next (replacing old new) p.slot p.entry.assertion.kind p.entry.assertion.proof ranges
              (same (proof_cell p.slot) (omega (arith, lt)) (λ z. omega (arith, z))) (λ j l cite n. names j l n) holds.proof;
          rank = same (rank_cell p.slot) (omega (arith, lt)) (λ z. omega (arith, z)) ∙ holds.rank;
          citers = same (citers_cell p.slot) (omega (arith, lt)) (λ z. omega (arith, z)) ∙ holds.citers
              ∙ sym (citers-renamed old new (label_of p.entry) unlike lib cites_none);
        }

    still_empty : (j : ℕ) → j < slots → IsEmpty slots st j → IsEmpty slots next j
    still_empty j lt empty =
        empty_same slots st next j
        (λ c low_end high. same c (omega (arith, lt, high)) (λ z. ne (omega (arith, low_end, high, z))))
        (enters.others j lt gone (λ h. ⊎_elim (λ e. ne e) gone h) ∙ leaves.others j lt unheld gone
        ∙ others (next_cell slots j) (λ z. omega (arith, in_slots, z)))
        empty
      where
        ne : j ≢ i
        ne z = full_slot slots st lib shows store own own_held (subst (IsEmpty slots st) z empty)

        unheld : Has j (slots_of shows.held) → ⊥
        unheld = empty_free slots st lib shows store j empty

        gone : Has j (slots_of (without_slot i shows.held)) → ⊥
        gone h = unheld (slot_was shows.held i j h)

    -- the assertions as they are in the chains, and as they are renamed, are of the same slots with the same labels
    seats : IsPermutation (map (seat slots) (record { slot = i; entry = f } ∷ without_slot i shows.held))
        (map (seat slots) (map (with_entry (renamed_entry old new)) shows.held))
    seats =
        let h = λ (p : Held). seat slots (with_entry (renamed_entry old new) p) in
        let rest = without_slot i shows.held in
        let first : replacing old new (label_of at.entry) ≡ label_of f =
        replacing-old old new (label_of at.entry)
        (subst (λ x. bytes_eq old x ≡ true) (sym (found_label slots st lib shows store apart old i at)) (bytes_eq-same old)) ∙ sym is_new in
        let later : map h rest ≡ map (seat slots) rest =
        map_agree h (seat slots) rest (λ p has.
        let was = filtered_has (λ (q : Held). not (q.slot == i)) shows.held p has in
        let other : bytes_eq old (label_of p.entry) ≡ false =
        other_label slots st lib shows store apart old i at p was.0 (eqb-false p.slot i (not-true (p.slot == i) was.1)) in
        let kept = replacing-other old new (label_of p.entry) other in
        λ k. (p.slot, kept k)) in
        let moved : IsPermutation (map h shows.held) (map (seat slots) (record { slot = i; entry = f } ∷ rest)) =
        subst (λ (l : List (ℕ × List ℕ)). IsPermutation (map h shows.held) l) (λ k. (i, first k) ∷ later k)
        (IsPermutation-map h shows.held (own ∷ rest) (slot_and_others shows.held own shows.apart own_held)) in
        subst (IsPermutation (map (seat slots) (record { slot = i; entry = f } ∷ rest)))
        (sym (map-map (seat slots) (with_entry (renamed_entry old new)) shows.held))
        (IsPermutation-sym _ _ moved)

    pub renamed_shows : Shows slots next (rename old new lib)
    renamed_shows =
        shows_mapped slots st next lib shows (renamed_entry old new) renamed_holds still_empty
        (chains_alike slots next (record { slot = i; entry = f } ∷ without_slot i shows.held)
        (map (with_entry (renamed_entry old new)) shows.held)
        seats enters.chained)
