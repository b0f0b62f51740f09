-- A state that shows a library, with other steps in the proof body of one slot and their citers counted, shows the library with the theorem
-- reproved.
use Rattle.std.proofs.Common.{◌≡◌, ◌≢◌, ℕ, ◌+◌, ◌-◌, ◌*◌, ◌<◌, ◌≤◌, List, length, map, true, false, refl, sym, ap, subst, ◌∙◌, ◌⊎◌, inl, inr, arith}
use Rattle.std.specs.List.{list_any}
use Rattle.std.specs.Str.{bytes_eq}
use Rattle.mmsyntax.specs.declared.statement.Kind.{Kind}
use Rattle.mmsyntax.specs.declared.statement.Kind.TheVariants.{Theorem}
use Rattle.mmsyntax.specs.declared.statement.Step.{Step}
use Rattle.mmsyntax.specs.Assertions.{Distinct}
use Rattle.library.specs.declared.library.Ranked.{Ranked}
use Rattle.library.specs.Library.{label_of}
use Rattle.library.specs.Edits.{citers, is_citation, changed, with_proof}
use Rattle.ranges.specs.Ranges.{Has, AreOfOneStore}
use Rattle.bodystore.specs.declared.stored.StoredStep.{StoredStep}
use Rattle.bodystore.specs.Bodies.{proof_body}
use Rattle.cells.specs.State.{State, HasBody, most_words}
use Rattle.cells.specs.Slots.{name_cell, statement_cell, proof_cell, rank_cell, citers_cell, next_cell}
use Rattle.cells.specs.Shows.{Held, IsEmpty, HoldsProof, AreStoredAs, Shows}
use Rattle.cells.specs.Lookups.{IsFoundAt}
use Rattle.cells.specs.Counts.{AreCitedSlots, AreOnlyIn, CountsIn, CountsOut}
use Rattle.ranges.proofs.Members.{cases_has}
use Rattle.cells.proofs.Counted.{one, listed_within, listed_full, listed_or_not, uncounted_out, uncounted_in}
use Rattle.cells.proofs.Holding.{body_same, stored_same, holds_same, empty_same, full_slot, NamesStay}
use Rattle.cells.proofs.Found.{held_holds, few_citers, found_held, found_label, found_has}
use Rattle.cells.proofs.Recounting.{citers-changed}
use Rattle.cells.proofs.Showing.{chains_stay, shows_changed}

-- the proof cell of the slot names the body of other steps, in the state laid; then what was cited before alone is counted out, and what is
-- cited now alone is counted in
module _ (slots : ℕ) (st laid less next : State) (lib : List Ranked) (shows : Shows slots st lib)
    (store : AreOfOneStore most_words st.ranges)
    (apart : Distinct bytes_eq (map label_of lib)) (label : List ℕ) (i : ℕ) (at : IsFoundAt slots st lib label i)
    (theorem : at.entry.assertion.kind ≡ Theorem) (steps : List Step) (former kept : List StoredStep) (before now : List ℕ)
    (stored_before : AreStoredAs slots st at.entry.assertion.proof former) (stored_now : AreStoredAs slots st steps kept)
    (cited_before : AreCitedSlots former before) (cited_now : AreCitedSlots kept now) (dropped gained : List ℕ)
    (drops : AreOnlyIn before now dropped) (gains : AreOnlyIn now before gained)
    (laid_ranges : laid.ranges ≡ st.ranges) (ranges : next.ranges ≡ st.ranges) (laid_proof : HasBody laid (proof_cell i) (proof_body kept))
    (laid_others : (c : ℕ) → c ≢ proof_cell i → laid.value c ≡ st.value c) (out : CountsOut dropped laid less) where
  in_slots : i < slots
  in_slots = at.holds.name.within

  -- the slots that are counted are slots
  pub before_within : (j : ℕ) → Has j before → j < slots
  before_within = listed_within slots st lib shows store at.entry.assertion.proof former before stored_before cited_before

  pub now_within : (j : ℕ) → Has j now → j < slots
  now_within = listed_within slots st lib shows store steps kept now stored_now cited_now

  -- what a slot counts once those that are dropped are counted out
  less_drops : (j : ℕ) → Has j dropped → less.value (citers_cell j) ≡ st.value (citers_cell j) - 1
  less_drops j h = out.counted j h ∙ ap (λ n. n - 1) (laid_others (citers_cell j) (λ z. omega (arith, z)))

  less_stays : (j : ℕ) → (Has j dropped → ⊥) → less.value (citers_cell j) ≡ st.value (citers_cell j)
  less_stays j free =
      out.others (citers_cell j) (λ m h z. free (subst (λ n. Has n dropped) (omega (arith, z)) h))
      ∙ laid_others (citers_cell j) (λ z. omega (arith, z))

  -- no slot of an assertion counts more citers than there are assertions
  pub less_few : (p : Held) → Has p shows.held → less.value (citers_cell p.slot) ≤ length lib
  less_few p h =
      let few = few_citers slots st lib shows p h in
      elim (cases_has dropped p.slot) [
        | inl so ↦ let e = less_drops p.slot so in omega (arith, e, few)
        | inr free ↦ let e = less_stays p.slot free in omega (arith, e, few)
      ]

  module _ (more : CountsIn gained less next) where
    next_stays : (j : ℕ) → (Has j gained → ⊥) → next.value (citers_cell j) ≡ less.value (citers_cell j)
    next_stays j free = more.others (citers_cell j) (λ m h z. free (subst (λ n. Has n gained) (omega (arith, z)) h))

    -- a cell of a slot that is not the proof cell of this one, and counts no citers, is as it was
    unproven : (c j k : ℕ) → c ≡ 5 * j + k → k < 4 → c ≢ proof_cell i → next.value c ≡ st.value c
    unproven c j k is few ne =
        uncounted_in gained less next c j k more is few ∙ uncounted_out dropped laid less c j k out is few ∙ laid_others c ne

    names : NamesStay slots st next
    names j l named =
        record {
          within = named.within;
          body = body_same st next (name_cell j) l ranges
              (unproven (name_cell j) j 0 (omega arith) (omega arith) (λ z. omega (arith, z))) named.body;
        }

    recounted : (p : Held) → Has p shows.held
        → next.value (citers_cell p.slot) ≡ citers (changed label (with_proof steps) lib) (label_of p.entry)
    recounted p h =
        by_cases
        (listed_or_not slots st lib shows store at.entry.assertion.proof former before stored_before cited_before apart p h)
        (listed_or_not slots st lib shows store steps kept now stored_now cited_now apart p h)
      where
        j : ℕ
        j = p.slot

        held : st.value (citers_cell p.slot) ≡ citers lib (label_of p.entry)
        held = (held_holds slots st lib shows p h).citers

        count : citers (changed label (with_proof steps) lib) (label_of p.entry)
            + one (list_any (is_citation (label_of p.entry)) at.entry.assertion.proof)
            ≡ citers lib (label_of p.entry) + one (list_any (is_citation (label_of p.entry)) steps)
        count = citers-changed lib label at.entry apart (found_has slots st lib shows store apart label i at)
            (found_label slots st lib shows store apart label i at) (with_proof steps) (label_of p.entry)

        -- the four ways in which the two proofs cite it
        by_cases : (Has p.slot before × (list_any (is_citation (label_of p.entry)) at.entry.assertion.proof ≡ true))
            ⊎ ((Has p.slot before → ⊥) × (list_any (is_citation (label_of p.entry)) at.entry.assertion.proof ≡ false))
            → (Has p.slot now × (list_any (is_citation (label_of p.entry)) steps ≡ true))
            ⊎ ((Has p.slot now → ⊥) × (list_any (is_citation (label_of p.entry)) steps ≡ false))
            → next.value (citers_cell p.slot) ≡ citers (changed label (with_proof steps) lib) (label_of p.entry)
        by_cases (inl b) (inl n) =
            let less_is = less_stays j (λ d. (drops.from j d).1 n.0) in
            let next_is = next_stays j (λ d. (gains.from j d).1 b.0) in
            let was = ap one b.1 in let is = ap one n.1 in omega (arith, held, count, less_is, next_is, was, is)
        by_cases (inl b) (inr n) =
            let less_is = less_drops j (drops.all j b.0 n.0) in
            let next_is = next_stays j (λ d. (gains.from j d).1 b.0) in
            let was = ap one b.1 in let is = ap one n.1 in omega (arith, held, count, less_is, next_is, was, is)
        by_cases (inr b) (inl n) =
            let less_is = less_stays j (λ d. (drops.from j d).1 n.0) in
            let next_is = more.counted j (gains.all j n.0 b.0) in
            let was = ap one b.1 in let is = ap one n.1 in omega (arith, held, count, less_is, next_is, was, is)
        by_cases (inr b) (inr n) =
            let less_is = less_stays j (λ d. b.0 (drops.from j d).0) in
            let next_is = next_stays j (λ d. n.0 (gains.from j d).0) in
            let was = ap one b.1 in let is = ap one n.1 in omega (arith, held, count, less_is, next_is, was, is)

    pub reproved_shows : Shows slots next (changed label (with_proof steps) lib)
    reproved_shows =
        shows_changed slots st next lib shows store apart label i at (with_proof steps) (λ e. refl)
        (record {
          name = names i (label_of at.entry) at.holds.name;
          statement = body_same st next (statement_cell i) _ ranges
              (unproven (statement_cell i) i 1 refl (omega arith) (λ z. omega (arith, z))) at.holds.statement;
          proof = subst (λ (kind : Kind). HoldsProof slots next i kind steps) (sym theorem) (
            kept,
            body_same laid next (proof_cell i) (proof_body kept) (ranges ∙ sym laid_ranges)
                (uncounted_in gained less next (proof_cell i) i 2 more refl (omega arith)
                ∙ uncounted_out dropped laid less (proof_cell i) i 2 out refl (omega arith))
                laid_proof,
            stored_same slots st next names steps kept stored_now,
          );
          rank = unproven (rank_cell i) i 3 refl (omega arith) (λ z. omega (arith, z)) ∙ at.holds.rank;
          citers = recounted own own_held;
        })
        (λ p h ne.
        let holds = held_holds slots st lib shows p h in
        holds_same slots st next names lib (changed label (with_proof steps) lib) p.slot p.entry ranges
        (unproven (name_cell p.slot) p.slot 0 (omega arith) (omega arith) (λ z. omega (arith, z)))
        (unproven (statement_cell p.slot) p.slot 1 refl (omega arith) (λ z. omega (arith, z)))
        (unproven (proof_cell p.slot) p.slot 2 refl (omega arith) (λ z. ne (omega (arith, z))))
        (unproven (rank_cell p.slot) p.slot 3 refl (omega arith) (λ z. omega (arith, z))) (recounted p h) holds)
        (λ j lt empty. empty_same slots st next j
        (λ c low high.
        more.others c (λ m h z. listed_full slots st lib shows store steps kept now stored_now cited_now m (gains.from m h).0
        (subst (IsEmpty slots st) (let e : j ≡ m = omega (arith, low, high, z) in e) empty))
        ∙ out.others c (λ m h z. listed_full slots st lib shows store at.entry.assertion.proof former before stored_before cited_before m
        (drops.from m h).0
        (subst (IsEmpty slots st) (let e : j ≡ m = omega (arith, low, high, z) in e) empty))
        ∙ laid_others c (λ z. full_slot slots st lib shows store own own_held
        (subst (IsEmpty slots st) (let e : j ≡ i = omega (arith, low, high, z) in e) empty)))
        (high (next_cell slots j) (omega arith)) empty)
        (chains_stay slots st next shows.held high shows.chained)
      where
        own : Held
        own = record { slot = i; entry = at.entry }

        own_held : Has own shows.held
        own_held = found_held slots st lib shows store apart label i at

        high : (c : ℕ) → 5 * slots ≤ c → next.value c ≡ st.value c
        high c up =
            more.others c (λ m h z. let lt = now_within m (gains.from m h).0 in omega (arith, up, lt, z))
            ∙ out.others c (λ m h z. let lt = before_within m (drops.from m h).0 in omega (arith, up, lt, z))
            ∙ laid_others c (λ z. omega (arith, up, in_slots, z))
