-- A state that shows a library, with one slot emptied, its citations counted out and the slot out of its chain, shows the library without
-- the assertion.
use Rattle.std.proofs.Common.{◌≡◌, ◌≢◌, ℕ, ◌+◌, ◌*◌, ◌<◌, ◌≤◌, true, false, List, map, refl, sym, ap, subst, ◌∙◌, ◌⊎◌, ⊎_elim, inl, inr, arith}
use Rattle.std.specs.Prelude.{◌==◌}
use mathlib.Core.Bool.{not}
use Rattle.std.specs.List.{list_any}
use Rattle.std.specs.Str.{bytes_eq}
use Rattle.std.proofs.lemmas.Bool.{cases_eq, cases_order, both_ways, eqb-false, not-true}
use Rattle.mmsyntax.specs.declared.statement.Step.{Step}
use Rattle.mmsyntax.specs.declared.statement.Step.TheVariants.{Cite}
use Rattle.mmsyntax.specs.Assertions.{Distinct}
use Rattle.mmsyntax.proofs.Names.{bytes_eq-same}
use Rattle.library.specs.declared.library.Ranked.{Ranked}
use Rattle.library.specs.Library.{label_of}
use Rattle.library.specs.Edits.{is_labelled, is_citation, cites, citers, without}
use Rattle.library.proofs.Citations.{none_contained}
use Rattle.library.proofs.Counts.{none_from_count}
use Rattle.ranges.specs.Ranges.{Has, AreOfOneStore}
use Rattle.bodystore.specs.declared.stored.StoredStep.{StoredStep}
use Rattle.cells.specs.State.{State, HasBody, most_words}
use Rattle.cells.specs.Slots.{name_cell, statement_cell, proof_cell, rank_cell, citers_cell, next_cell}
use Rattle.cells.specs.Shows.{Held, slots_of, IsNamed, IsEmpty, HoldsProof, AreStoredAs, AreChained, Holds, Shows}
use Rattle.cells.specs.Lookups.{IsFoundAt}
use Rattle.chains.specs.Chains.{Rechains, without_slot}
use Rattle.cells.specs.Counts.{AreCitedSlots, CountsOut}
use Rattle.cells.proofs.Bodies.{one_body}
use Rattle.cells.proofs.Counted.{listed_within, listed_full, counted_out, uncounted_out}
use Rattle.cells.proofs.Found.{held_holds, found_held, found_label, found_has, slot_or_label}
use Rattle.cells.proofs.Holding.{body_same, empty_same, empty_free, held_in}
use Rattle.ranges.proofs.Members.{any_has, all_from_has, contains_from_has, has_mapped, filtered_has}
use Rattle.cells.proofs.Ones.{filter_mapped}
use Rattle.cells.proofs.Recounting.{citers-without}
use Rattle.cells.proofs.Showing.{chains_stay}
use Rattle.cells.proofs.Storing.{proof_relabelled, relabelled_none}
use Rattle.cells.proofs.Tallies.{distinct_filtered}
use Rattle.chains.proofs.Unlinking.{slot_gone, slot_stays, slot_was}

-- what the assertion in the slot cites is counted out
module _ (slots : ℕ) (st less : State) (lib : List Ranked) (shows : Shows slots st lib) (store : AreOfOneStore most_words st.ranges)
    (apart : Distinct bytes_eq (map label_of lib)) (label : List ℕ) (i : ℕ) (at : IsFoundAt slots st lib label i)
    (kept : List StoredStep) (listed : List ℕ) (stored : AreStoredAs slots st at.entry.assertion.proof kept)
    (cited : AreCitedSlots kept listed)
    (counts : CountsOut listed st less) where
  less_high : (c : ℕ) → 5 * slots ≤ c → less.value c ≡ st.value c
  less_high c up =
      counts.others c (λ m h z.
      let lt = listed_within slots st lib shows store at.entry.assertion.proof kept listed stored cited m h in omega (arith, up, lt, z))

  -- so the chains are as they were
  pub still_chained : AreChained slots less shows.held
  still_chained = chains_stay slots st less shows.held less_high shows.chained

  -- the slot is taken out of its chain, and then its five cells are 0
  module _ (out next : State) (uncited : citers lib label ≡ 0) (ranges : next.ranges ≡ st.ranges)
      (chains : Rechains slots less out shows.held (without_slot i shows.held))
      (zeros : (c : ℕ) → 5 * i ≤ c → c < 5 * i + 5 → next.value c ≡ 0)
      (others : (c : ℕ) → (c < 5 * i) ⊎ (5 * i + 5 ≤ c) → next.value c ≡ out.value c) where
    in_slots : i < slots
    in_slots = at.holds.name.within

    next_less : (j c : ℕ) → j < slots → j ≢ i → 5 * j ≤ c → c < 5 * j + 5 → next.value c ≡ less.value c
    next_less j c lt ne low high =
        elim (cases_order j i) [
          | inl e ↦ absurd (ne e)
          | inr o ↦ ⊎_elim (λ before. others c (inl (omega (arith, before, high))))
              (λ behind. others c (inr (omega (arith, behind, low)))) o
        ]
        ∙ chains.cells c (omega (arith, lt, high))

    same : (c j k : ℕ) → j < slots → j ≢ i → c ≡ 5 * j + k → k < 4 → next.value c ≡ st.value c
    same c j k lt ne is few = next_less j c lt ne (omega (arith, is)) (omega (arith, is, few))
        ∙ uncounted_out listed st less c j k counts is few

    -- no proof cites the label
    cites_none : (p : Held) → Has p shows.held → list_any (is_citation label) p.entry.assertion.proof ≡ false
    cites_none p h =
        none_contained (cites label) lib p.entry (none_from_count (cites label) lib uncited)
        (contains_from_has lib p.entry (held_in slots st lib shows store p h))

    names : (p : Held) → Has p shows.held → (j : ℕ) (l : List ℕ) → Has (Cite l) p.entry.assertion.proof → IsNamed slots st j l
        → IsNamed slots next j l
    names p h j l cite named =
        record {
          within = named.within;
          body = body_same st next (name_cell j) l ranges
              (same (name_cell j) j 0 named.within ne (omega arith) (omega arith)) named.body;
        }
      where
        ne : j ≢ i
        ne z =
            let own : label_of at.entry ≡ l =
            one_body st (name_cell i) (label_of at.entry) l store at.holds.name.body
            (subst (λ n. HasBody st (name_cell n) l) z named.body) in
            let is : label ≡ l = sym (found_label slots st lib shows store apart label i at) ∙ own in
            both_ways (list_any (is_citation label) p.entry.assertion.proof) (cites_none p h)
            (any_has (is_citation label) p.entry.assertion.proof (Cite l) cite
            (subst (λ x. bytes_eq label x ≡ true) is (bytes_eq-same label)))

    stays : (p : Held) → Has p shows.held → p.slot ≢ i → Holds slots next (without label lib) p.slot p.entry
    stays p h ne =
        let holds = held_holds slots st lib shows p h in
        let within = holds.name.within in
        let steps = p.entry.assertion.proof in
        let count = citers-without lib label at.entry apart (found_has slots st lib shows store apart label i at)
        (found_label slots st lib shows store apart label i at) (label_of p.entry) in
        let left = next_less p.slot (citers_cell p.slot) within ne (omega arith) (omega arith)
        ∙ counted_out slots st lib shows store at.entry.assertion.proof kept listed stored cited apart p h st less counts in
        record {
          name = record {
            within = within;
            body = body_same st next (name_cell p.slot) _ ranges
                (same (name_cell p.slot) p.slot 0 within ne (omega arith) (omega arith)) holds.name.body;
          };
          statement = body_same st next (statement_cell p.slot) _ ranges
              (same (statement_cell p.slot) p.slot 1 within ne refl (omega arith)) holds.statement;
          proof = subst (λ (l : List Step). HoldsProof slots next p.slot p.entry.assertion.kind l) (relabelled_none steps)
              (proof_relabelled slots st next (λ l. l) p.slot p.entry.assertion.kind steps ranges
              (same (proof_cell p.slot) p.slot 2 within ne refl (omega arith)) (names p h) holds.proof);
          rank = same (rank_cell p.slot) p.slot 3 within ne refl (omega arith) ∙ holds.rank;
          citers = omega (arith, left, holds.citers, count);
        }

    gone : IsEmpty slots next i
    gone =
        record {
          name = zeros (name_cell i) (omega arith) (omega arith);
          statement = zeros (statement_cell i) (omega arith) (omega arith);
          proof = zeros (proof_cell i) (omega arith) (omega arith);
          rank = zeros (rank_cell i) (omega arith) (omega arith);
          citers = zeros (citers_cell i) (omega arith) (omega arith);
          next = others (next_cell slots i) (inr (omega (arith, in_slots)))
              ∙ chains.out i (has_mapped (λ (p : Held). p.slot) shows.held (record { slot = i; entry = at.entry })
              (found_held slots st lib shows store apart label i at)) (slot_gone shows.held i);
        }

    still_empty : (j : ℕ) → j < slots → j ≢ i → IsEmpty slots st j → IsEmpty slots next j
    still_empty j lt ne empty =
        empty_same slots st next j
        (λ c low high. next_less j c lt ne low high
        ∙ counts.others c (λ m h z. listed_full slots st lib shows store at.entry.assertion.proof kept listed stored cited m h
        (subst (IsEmpty slots st) (let e : j ≡ m = omega (arith, low, high, z) in e) empty)))
        (others (next_cell slots j) (inr (omega (arith, in_slots)))
        ∙ chains.others j lt free (λ h. free (slot_was shows.held i j h)) ∙ less_high (next_cell slots j) (omega arith))
        empty
      where
        free : Has j (slots_of shows.held) → ⊥
        free = empty_free slots st lib shows store j empty

    pub deleted_shows : Shows slots next (without label lib)
    deleted_shows =
        record {
          held = without_slot i shows.held;
          library = filter_mapped (λ (p : Held). p.entry) (λ p. not (p.slot == i)) (λ e. not (is_labelled label e)) shows.held
              (λ p h. ap not (slot_or_label slots st lib shows store apart label i at p h))
              ∙ ap (without label) shows.library;
          holds = all_from_has (λ (p : Held). Holds slots next (without label lib) p.slot p.entry) (without_slot i shows.held) (λ p h.
              let f = filtered_has (λ (q : Held). not (q.slot == i)) shows.held p h in
              stays p f.0 (eqb-false p.slot i (not-true (p.slot == i) f.1)));
          apart = distinct_filtered (λ (p : Held). not (p.slot == i)) (λ (p : Held). p.slot) shows.held shows.apart;
          others = λ j lt. elim (cases_eq j i) [
            | inl is ↦ inr (subst (IsEmpty slots next) (sym is) gone)
            | inr ne ↦ ⊎_elim (λ h. inl (slot_stays shows.held i j h ne)) (λ empty. inr (still_empty j lt ne empty)) (shows.others j lt)
          ];
          chained = chains_stay slots out next (without_slot i shows.held)
              (λ c up. others c (inr (omega (arith, in_slots, up)))) chains.chained;
        }
