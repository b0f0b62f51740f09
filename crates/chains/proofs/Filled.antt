-- A library that is shown, with an assertion in a slot that was empty.
use Rattle.std.proofs.Common.{◌≡◌, ◌≢◌, ℕ, ◌+◌, ◌*◌, ◌<◌, ◌≤◌, List, [], ◌∷◌, ◌++◌, map, refl, sym, ap, subst, ◌∙◌}
use Rattle.std.proofs.Common.{inl, inr, ⊎_elim, arith, nat_eq}
use Rattle.std.specs.Str.{bytes_eq}
use Rattle.std.proofs.lemmas.Bool.{cases_Bool, cases_eq, cases_order, cond-true, cond-false, both_ways}
use Rattle.std.proofs.lemmas.List.{map-append}
use Rattle.std.proofs.lemmas.List.Elements.{All-push}
use Rattle.std.proofs.lemmas.List.Sums.{sum_by_push}
use Rattle.std.proofs.lemmas.List.Sorted.{IsPermutation-sym, IsPermutation-map, IsPermutation-to_front}
use Rattle.mmsyntax.specs.declared.statement.Assertion.{Assertion}
use Rattle.mmsyntax.specs.declared.statement.Kind.{Kind}
use Rattle.mmsyntax.specs.declared.statement.Kind.TheVariants.{Axiom, Theorem}
use Rattle.mmsyntax.specs.declared.statement.Step.{Step}
use Rattle.mmsyntax.specs.Assertions.{Distinct}
use Rattle.library.specs.declared.library.Ranked.{Ranked}
use Rattle.library.specs.Library.{label_of}
use Rattle.library.specs.Edits.{cites, citers, added}
use Rattle.library.proofs.Counts.{one_if}
use Rattle.ranges.specs.Ranges.{Has, AreOfOneStore}
use Rattle.bodystore.specs.declared.stored.StoredStep.{StoredStep}
use Rattle.bodystore.specs.declared.stored.StoredStep.TheVariants.{Slot}
use Rattle.cells.specs.State.{State, most_words}
use Rattle.cells.specs.Slots.{name_cell, statement_cell, proof_cell, rank_cell, citers_cell, bucket_cell, next_cell}
use Rattle.cells.specs.Shows.{Held, slots_of, IsNamed, AreStoredAs, HoldsProof, Holds, IsEmpty, AreChained, Shows, ShowsHeld}
use Rattle.chains.specs.Chains.{Rechains}
use Rattle.cells.specs.Counts.{AreCitedSlots, CountsIn}
use Rattle.chains.specs.Filling.{MayFill, IsFillable, LaysProof, LaysDown}
use Rattle.ranges.proofs.Members.{all_has, all_from_has, has_append_left, has_append_right, has_append_cases, absent, none_absent}
use Rattle.cells.proofs.Linking.{seat, chains_alike, chains_kept}
use Rattle.cells.proofs.Holding.{body_same, stored_same, holds_same, empty_same, named_held, held_name, full_slot, empty_free, stored_named, stored_cites, cites_stored, uncited, no_citers}

-- one more behind numbers that differ
distinct_push : (xs : List ℕ) (x : ℕ) → Distinct nat_eq xs → (Has x xs → ⊥) → Distinct nat_eq (xs ++ x ∷ [])
distinct_push [] x d free = (refl, tt)
distinct_push (y ∷ ys) x d free = (
  none_absent (ys ++ x ∷ []) y (λ h. ⊎_elim (absent ys y d.0) (λ last. ⊎_elim (λ e. free (inl (sym e))) (λ z. z) last)
      (has_append_cases ys (x ∷ []) y h)),
  distinct_push ys x d.1 (λ h. free (inr h)),
)

-- the citers of a label, with one assertion more
pub citers_added : (lib : List Ranked) (e : Ranked) (label : List ℕ)
    → citers (lib ++ e ∷ []) label ≡ citers lib label + one_if (cites label) e
citers_added lib e label = sum_by_push (one_if (cites label)) lib e

-- steps that are stored as none are none
none_stored : (slots : ℕ) (st : State) (steps : List Step) (kept : List StoredStep) → AreStoredAs slots st steps kept → kept ≡ []
    → steps ≡ []
none_stored slots st [] kept h e = refl
none_stored slots st (x ∷ steps) [] h e = absurd h
none_stored slots st (x ∷ steps) (k ∷ kept) h e = absurd cc

module _ (slots : ℕ) (st laid : State) (lib : List Ranked) (shows : Shows slots st lib) (store : AreOfOneStore most_words st.ranges)
    (i rank : ℕ) (a : Assertion) (kept : List StoredStep) (cited : List ℕ) (in_slots : i < slots) (lays : LaysDown st laid i rank a kept)
    (cites_are : AreCitedSlots kept cited) where
  abbrev entry : Ranked
  entry = record { rank = rank; assertion = a }

  -- ---- what each state has where

  -- another slot's cells are as they were when the slot's are laid down
  laid_other : (j c : ℕ) → j ≢ i → 5 * j ≤ c → c < 5 * j + 5 → laid.value c ≡ st.value c
  laid_other j c ne low high =
      elim (cases_order j i) [
        | inl e ↦ absurd (ne e)
        | inr o ↦ ⊎_elim (λ lt. lays.others c (inl (omega (arith, lt, high)))) (λ gt. lays.others c (inr (omega (arith, gt, low)))) o
      ]

  laid_high : (c : ℕ) → 5 * slots ≤ c → laid.value c ≡ st.value c
  laid_high c high = lays.others c (inr (omega (arith, in_slots, high)))

  -- a cited slot is held
  cited_held : AreStoredAs slots st a.proof kept → (j : ℕ) → Has j cited → (p : Held) × Has p shows.held × (p.slot ≡ j)
  cited_held stored j h =
      let n = stored_named slots st lib shows store a.proof kept j stored (cites_are.cited j h) in
      let p = named_held slots st lib shows store j n.0 n.1 in
      (p.0, p.1, p.2)

  -- and counts as many citers as its label has
  pub cited_few : MayFill slots st lib i a kept → (n : ℕ) → ((label : List ℕ) → citers lib label ≤ n) → (j : ℕ) → Has j cited
      → laid.value (citers_cell j) ≤ n
  cited_few may n most j h =
      let p = cited_held may.stored j h in
      let holds : Holds slots st lib p.0.slot p.0.entry =
      all_has (λ (q : Held). Holds slots st lib q.slot q.entry) shows.held p.0 shows.holds p.1 in
      let ne : j ≢ i = λ z. full_slot slots st lib shows store p.0 p.1 (subst (IsEmpty slots st) (sym (p.2 ∙ z)) may.empty) in
      let same = laid_other j (citers_cell j) ne (omega arith) (omega arith) in
      let is : st.value (citers_cell j) ≡ citers lib (label_of p.0.entry) =
      subst (λ m. st.value (citers_cell m) ≡ citers lib (label_of p.0.entry)) p.2 holds.citers in
      subst (λ m. m ≤ n) (sym (same ∙ is)) (most (label_of p.0.entry))

  module _ (counted : State) (counts : CountsIn cited laid counted) (fillable : IsFillable slots a kept) where
    -- a cell that counts no citers is not counted up
    counted_other : (c j k : ℕ) → c ≡ 5 * j + k → k < 4 → counted.value c ≡ laid.value c
    counted_other c j k is lt = counts.others c (λ m has z. omega (arith, is, lt, z))

    counted_high : (c : ℕ) → 5 * slots ≤ c → counted.value c ≡ laid.value c
    counted_high c high = counts.others c (λ m has z. let lt = fillable.within m (cites_are.cited m has) in omega (arith, high, lt, z))

    -- so the chains are as they were
    pub still_chained : AreChained slots counted shows.held
    still_chained =
        chains_kept slots st counted shows.held
        (λ b lt. counted_high (bucket_cell slots b) (omega arith) ∙ laid_high (bucket_cell slots b) (omega arith))
        (λ j h. counted_high (next_cell slots j) (omega arith) ∙ laid_high (next_cell slots j) (omega arith))
        shows.chained

    -- ---- what is shown in the end

    module _ (next : State) (laid_ranges : laid.ranges ≡ st.ranges) (next_ranges : next.ranges ≡ st.ranges)
        (apart : Distinct bytes_eq (map label_of lib))
        (may : MayFill slots st lib i a kept)
        (chains : Rechains slots counted next shows.held (record { slot = i; entry = entry } ∷ shows.held)) where
      abbrev here : Held
      here = record { slot = i; entry = record { rank = rank; assertion = a } }

      free : Has i (slots_of shows.held) → ⊥
      free = empty_free slots st lib shows store i may.empty

      -- a cell of a slot that counts no citers is as it was laid down
      next_laid : (c j k : ℕ) → j < slots → c ≡ 5 * j + k → k < 4 → next.value c ≡ laid.value c
      next_laid c j k lt is few = chains.cells c (omega (arith, lt, is, few)) ∙ counted_other c j k is few

      next_same : (c j k : ℕ) → j < slots → j ≢ i → c ≡ 5 * j + k → k < 4 → next.value c ≡ st.value c
      next_same c j k lt ne is few = next_laid c j k lt is few ∙ laid_other j c ne (omega (arith, is)) (omega (arith, is, few))

      not_cited : (j : ℕ) → IsEmpty slots st j → Has j cited → ⊥
      not_cited j empty h =
          let p = cited_held may.stored j h in
          full_slot slots st lib shows store p.0 p.1 (subst (IsEmpty slots st) (sym p.2) empty)

      -- the citers of a slot that is not cited are as they were laid down
      uncounted : (j : ℕ) → j < slots → (Has j cited → ⊥) → next.value (citers_cell j) ≡ laid.value (citers_cell j)
      uncounted j lt out =
          chains.cells (citers_cell j) (omega (arith, lt))
          ∙ counts.others (citers_cell j) (λ m has z. out (subst (λ n. Has n cited) (omega (arith, z)) has))

      names_stay : (j : ℕ) (label : List ℕ) → IsNamed slots st j label → IsNamed slots next j label
      names_stay j label named =
          let p = named_held slots st lib shows store j label named in
          let ne : j ≢ i = λ z. full_slot slots st lib shows store p.0 p.1 (subst (IsEmpty slots st) (sym (p.2 ∙ z)) may.empty) in
          record {
            within = named.within;
            body = body_same st next (name_cell j) label next_ranges
                (next_same (name_cell j) j 0 named.within ne (omega arith) (omega arith)) named.body;
          }

      -- the one that is new
      new_holds : Holds slots next (added lib rank a) i entry
      new_holds =
          record {
            name = record {
              within = in_slots;
              body = body_same laid next (name_cell i) a.label (next_ranges ∙ sym laid_ranges)
                  (next_laid (name_cell i) i 0 in_slots (omega arith) (omega arith)) lays.name;
            };
            statement = body_same laid next (statement_cell i) _ (next_ranges ∙ sym laid_ranges)
                (next_laid (statement_cell i) i 1 in_slots refl (omega arith)) lays.statement;
            proof = proven a.kind lays.proof (λ is. none_stored slots st a.proof kept may.stored (fillable.none is)) refl;
            rank = next_laid (rank_cell i) i 3 in_slots refl (omega arith) ∙ lays.ranked;
            citers = uncounted i in_slots (not_cited i may.empty) ∙ lays.citers ∙ sym none;
          }
        where
          same : next.value (5 * i + 2) ≡ laid.value (5 * i + 2)
          same = next_laid (proof_cell i) i 2 in_slots refl (omega arith)

          proven : (kind : Kind) → LaysProof st laid i kind kept → (kind ≡ Axiom → a.proof ≡ []) → a.kind ≡ kind
              → HoldsProof slots next i kind a.proof
          proven Axiom h none is = (same ∙ h ∙ may.empty.proof, none refl)
          proven Theorem h none is = (
            kept,
            body_same laid next (proof_cell i) _
                (next_ranges ∙ sym laid_ranges) same h,
            stored_same slots st next names_stay a.proof kept may.stored,
          )

          none : citers (added lib rank a) a.label ≡ 0
          none =
              let c = uncited slots st lib shows store a.label may.new a.proof kept may.stored in
              let z = no_citers slots st lib shows store a.label may.new in
              omega (arith, citers_added lib entry a.label, z, cond-false {A = ℕ} (cites a.label entry) 1 0 c)

      -- and each of the others
      old_holds : (p : Held) → Has p shows.held → Holds slots next (added lib rank a) p.slot p.entry
      old_holds p h =
          holds_same slots st next names_stay lib (added lib rank a) p.slot p.entry next_ranges
          (next_same (name_cell p.slot) p.slot 0 within ne (omega arith) (omega arith))
          (next_same (statement_cell p.slot) p.slot 1 within ne refl (omega arith))
          (next_same (proof_cell p.slot) p.slot 2 within ne refl (omega arith))
          (next_same (rank_cell p.slot) p.slot 3 within ne refl (omega arith))
          (elim (cases_Bool (cites label entry)) [
            | inl so ↦
                let has = cites_all (cites_stored slots st lib shows store apart p h a.proof kept may.stored so) in
                let up = chains.cells (citers_cell p.slot) (omega (arith, within)) ∙ counts.counted p.slot has in
                omega (arith, up, was, citers_added lib entry label, cond-true {A = ℕ} (cites label entry) 1 0 so)
            | inr other ↦
                let kept_so = uncounted p.slot within (λ has. both_ways (cites label entry) other
                (stored_cites slots st lib shows store p h a.proof kept may.stored (cites_are.cited p.slot has))) in
                omega (arith, kept_so, was, citers_added lib entry label, cond-false {A = ℕ} (cites label entry) 1 0 other)
          ]) holds
        where
          label : List ℕ
          label = p.entry.assertion.label

          holds : Holds slots st lib p.slot p.entry
          holds = all_has (λ (q : Held). Holds slots st lib q.slot q.entry) shows.held p shows.holds h

          within : p.slot < slots
          within = (held_name slots st lib shows store p h).within

          ne : p.slot ≢ i
          ne z = full_slot slots st lib shows store p h (subst (IsEmpty slots st) (sym z) may.empty)

          was : laid.value (citers_cell p.slot) ≡ citers lib (label_of p.entry)
          was = laid_other p.slot (citers_cell p.slot) ne (omega arith) (omega arith) ∙ holds.citers

          cites_all : Has (Slot p.slot) kept → Has p.slot cited
          cites_all = cites_are.all p.slot

      still_empty : (j : ℕ) → j < slots → j ≢ i → (Has j (slots_of shows.held) → ⊥) → IsEmpty slots st j → IsEmpty slots next j
      still_empty j lt ne out empty =
          empty_same slots st next j
          (λ c low high. chains.cells c (omega (arith, lt, high))
          ∙ counts.others c (λ m has z. not_cited j empty (subst (λ n. Has n cited) (omega (arith, low, high, z)) has))
          ∙ laid_other j c ne low high)
          (chains.others j lt out (λ h. ⊎_elim (λ e. ne e) out h)
          ∙ counted_high (next_cell slots j) (omega arith) ∙ laid_high (next_cell slots j) (omega arith))
          empty

      pub filled : ShowsHeld slots next (added lib rank a) (shows.held ++ here ∷ [])
      filled = (
        record {
          held = shows.held ++ here ∷ [];
          library = map-append (λ (p : Held). p.entry) shows.held (here ∷ []) ∙ ap (λ (l : List Ranked). l ++ entry ∷ []) shows.library;
          holds = All-push (λ (p : Held). Holds slots next (added lib rank a) p.slot p.entry) shows.held here
              (all_from_has (λ (p : Held). Holds slots next (added lib rank a) p.slot p.entry) shows.held old_holds) new_holds;
          apart = subst (Distinct nat_eq) (sym (map-append (λ (p : Held). p.slot) shows.held (here ∷ [])))
              (distinct_push (slots_of shows.held) i shows.apart free);
          others = λ j lt. elim (cases_eq j i) [
            | inl e ↦ inl (subst (λ l. Has j l) (sym (map-append (λ (p : Held). p.slot) shows.held (here ∷ [])))
                (has_append_right (slots_of shows.held) (i ∷ []) j (inl e)))
            | inr ne ↦ ⊎_elim
                (λ full. inl (subst (λ l. Has j l) (sym (map-append (λ (p : Held). p.slot) shows.held (here ∷ [])))
                (has_append_left (slots_of shows.held) (i ∷ []) j full)))
                (λ empty. inr (still_empty j lt ne (empty_free slots st lib shows store j empty) empty))
                (shows.others j lt)
          ];
          chained = chains_alike slots next (here ∷ shows.held) (shows.held ++ here ∷ [])
              (IsPermutation-map (seat slots) (here ∷ shows.held) (shows.held ++ here ∷ [])
              (IsPermutation-sym (shows.held ++ here ∷ []) (here ∷ shows.held) (IsPermutation-to_front shows.held here)))
              chains.chained;
        },
        refl,
      )
