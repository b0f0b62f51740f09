-- A state that shows a library, with another rank in the rank cell of one slot, shows the library with the assertion moved.
use Rattle.std.proofs.Common.{◌≡◌, ◌≢◌, ℕ, ◌+◌, ◌*◌, ◌<◌, List, map, refl, sym, subst, ◌∙◌, arith}
use Rattle.std.specs.Str.{bytes_eq}
use Rattle.mmsyntax.specs.Assertions.{Distinct}
use Rattle.library.specs.declared.library.Ranked.{Ranked}
use Rattle.library.specs.Library.{label_of}
use Rattle.library.specs.Edits.{citers, changed, with_rank}
use Rattle.ranges.specs.Ranges.{AreOfOneStore}
use Rattle.cells.specs.State.{State, most_words}
use Rattle.cells.specs.Slots.{name_cell, statement_cell, proof_cell, rank_cell, citers_cell, next_cell}
use Rattle.cells.specs.Shows.{IsEmpty, Shows}
use Rattle.cells.specs.Lookups.{IsFoundAt}
use Rattle.cells.proofs.Holding.{body_same, proof_same, holds_same, empty_same, full_slot, NamesStay}
use Rattle.cells.proofs.Found.{held_holds, found_held}
use Rattle.cells.proofs.Recounting.{citers-moved}
use Rattle.cells.proofs.Showing.{chains_stay, shows_changed}

module _ (slots : ℕ) (st next : State) (lib : List Ranked) (shows : Shows slots st lib) (store : AreOfOneStore most_words st.ranges)
    (apart : Distinct bytes_eq (map label_of lib)) (label : List ℕ) (i : ℕ) (at : IsFoundAt slots st lib label i) (rank : ℕ)
    (ranges : next.ranges ≡ st.ranges) (ranked : next.value (rank_cell i) ≡ rank)
    (others : (c : ℕ) → c ≢ rank_cell i → next.value c ≡ st.value c) where
  -- a cell of a slot that is no rank cell is as it was
  unranked : (c j k : ℕ) → c ≡ 5 * j + k → k < 5 → k ≢ 3 → next.value c ≡ st.value c
  unranked c j k is few ne = others c (λ z. ne (omega (arith, is, few, z)))

  names : NamesStay slots st next
  names j l named =
      record {
        within = named.within;
        body = body_same st next (name_cell j) l ranges
            (unranked (name_cell j) j 0 (omega arith) (omega arith) (λ z. omega (arith, z))) named.body;
      }

  recounted : (j : ℕ) (l : List ℕ) → st.value (citers_cell j) ≡ citers lib l
      → next.value (citers_cell j) ≡ citers (changed label (with_rank rank) lib) l
  recounted j l was = unranked (citers_cell j) j 4 refl (omega arith) (λ z. omega (arith, z)) ∙ was ∙ sym (citers-moved lib label l rank)

  pub moved_shows : Shows slots next (changed label (with_rank rank) lib)
  moved_shows =
      shows_changed slots st next lib shows store apart label i at (with_rank rank) (λ e. refl)
      (record {
        name = names i (label_of at.entry) at.holds.name;
        statement = body_same st next (statement_cell i) _ ranges
            (unranked (statement_cell i) i 1 refl (omega arith) (λ z. omega (arith, z))) at.holds.statement;
        proof = proof_same slots st next names i at.entry.assertion.kind at.entry.assertion.proof ranges
            (unranked (proof_cell i) i 2 refl (omega arith) (λ z. omega (arith, z))) at.holds.proof;
        rank = ranked;
        citers = recounted i (label_of at.entry) at.holds.citers;
      })
      (λ p h ne.
      let holds = held_holds slots st lib shows p h in
      holds_same slots st next names lib (changed label (with_rank rank) lib) p.slot p.entry ranges
      (unranked (name_cell p.slot) p.slot 0 (omega arith) (omega arith) (λ z. omega (arith, z)))
      (unranked (statement_cell p.slot) p.slot 1 refl (omega arith) (λ z. omega (arith, z)))
      (unranked (proof_cell p.slot) p.slot 2 refl (omega arith) (λ z. omega (arith, z)))
      (others (rank_cell p.slot) (λ z. ne (omega (arith, z)))) (recounted p.slot (label_of p.entry) holds.citers) holds)
      (λ j lt empty. empty_same slots st next j
      (λ c low high. others c (λ z.
      let e : j ≡ i = omega (arith, low, high, z) in
      full_slot slots st lib shows store (record { slot = i; entry = at.entry }) (found_held slots st lib shows store apart label i at)
      (subst (IsEmpty slots st) e empty)))
      (others (next_cell slots j) (λ z. omega (arith, within, z))) empty)
      (chains_stay slots st next shows.held (λ c high. others c (λ z. omega (arith, within, high, z))) shows.chained)
    where
      within : i < slots
      within = at.holds.name.within
