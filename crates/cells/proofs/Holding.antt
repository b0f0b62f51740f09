-- What a state that shows a library says of its slots: named slots hold assertions, and steps that cite slots cite labels.
use Rattle.std.proofs.Common.{◌≡◌, ℕ, ◌+◌, ◌*◌, ◌<◌, true, false, List, [], ◌∷◌, map, refl, sym, ap, subst, ◌∙◌}
use Rattle.std.proofs.Common.{inl, inr, ⊎_elim, arith, ◌≤◌}
use Rattle.std.specs.List.{list_any}
use Rattle.std.specs.Str.{bytes_eq}
use Rattle.std.proofs.lemmas.Bool.{both_ways, or_cases, or_left, or_right, or_from, false_from_ne_true}
use Rattle.std.proofs.lemmas.List.Folds.{list_any_none}
use Rattle.mmsyntax.specs.declared.statement.Kind.{Kind}
use Rattle.mmsyntax.specs.declared.statement.Kind.TheVariants.{Axiom, Theorem}
use Rattle.mmsyntax.specs.declared.statement.Step.{Step}
use Rattle.mmsyntax.specs.declared.statement.Step.TheVariants.{Float, Hyp, Cite}
use Rattle.mmsyntax.specs.Assertions.{Distinct}
use Rattle.mmsyntax.proofs.Names.{same_bytes, bytes_eq-same}
use Rattle.library.specs.declared.library.Ranked.{Ranked}
use Rattle.library.specs.Library.{label_of}
use Rattle.library.specs.Edits.{has, cites, citers, is_citation, is_labelled}
use Rattle.library.proofs.Places.{is_labelled-own}
use Rattle.library.proofs.Counts.{none_counted}
use Rattle.ranges.specs.Ranges.{Has, AreOfOneStore}
use Rattle.bodystore.specs.declared.stored.StoredStep.{StoredStep}
use Rattle.bodystore.specs.declared.stored.StoredStep.TheVariants as stored
use Rattle.cells.specs.State.{State, most_words}
use Rattle.cells.specs.Slots.{name_cell, statement_cell, proof_cell, rank_cell, citers_cell, next_cell}
use Rattle.cells.specs.Shows.{Held, slots_of, entries_of, IsNamed, AreStoredAs, IsStoredAs, HoldsProof, Holds, IsEmpty, Shows}
pub use Rattle.cells.proofs.Bodies.{body_same}
use Rattle.cells.proofs.Storing.{stored_relabelled, proof_relabelled, relabelled_none}
use Rattle.ranges.proofs.Members.{all_has, any_has, has_mapped, mapped_has, all_from_has, has_from_contains, contains_from_has}
use Rattle.cells.proofs.Holders.{holder, listed}
use Rattle.cells.proofs.Bodies.{one_body, no_body}

-- ---- what stays

module _ (slots : ℕ) (st next : State) where
  -- each named slot keeps its name
  abbrev pub NamesStay : Type 0
  NamesStay = (i : ℕ) (label : List ℕ) → IsNamed slots st i label → IsNamed slots next i label

  -- so what is stored stays stored
  pub stored_same : NamesStay → (steps : List Step) (kept : List StoredStep) → AreStoredAs slots st steps kept
      → AreStoredAs slots next steps kept
  stored_same stay steps kept h =
      subst (λ xs. AreStoredAs slots next xs kept) (relabelled_none steps)
      (stored_relabelled slots st next (λ label. label) steps kept (λ i label cited. stay i label) h)

  pub proof_same : NamesStay → (i : ℕ) (kind : Kind) (steps : List Step) → next.ranges ≡ st.ranges
      → next.value (proof_cell i) ≡ st.value (proof_cell i) → HoldsProof slots st i kind steps → HoldsProof slots next i kind steps
  proof_same stay i kind steps ranges same h =
      subst (HoldsProof slots next i kind) (relabelled_none steps)
      (proof_relabelled slots st next (λ label. label) i kind steps ranges same (λ j label cited. stay j label) h)

  -- the assertion is held again where its cells are the same, the names are, and its citers are counted
  pub holds_same : NamesStay → (lib more : List Ranked) (i : ℕ) (e : Ranked) → next.ranges ≡ st.ranges
      → next.value (name_cell i) ≡ st.value (name_cell i) → next.value (statement_cell i) ≡ st.value (statement_cell i)
      → next.value (proof_cell i) ≡ st.value (proof_cell i) → next.value (rank_cell i) ≡ st.value (rank_cell i)
      → next.value (citers_cell i) ≡ citers more (label_of e) → Holds slots st lib i e → Holds slots next more i e
  holds_same stay lib more i e ranges name statement proof rank counted h =
      record {
        name = record { within = h.name.within; body = body_same st next (name_cell i) _ ranges name h.name.body };
        statement = body_same st next (statement_cell i) _ ranges statement h.statement;
        proof = proof_same stay i e.assertion.kind e.assertion.proof ranges proof h.proof;
        rank = rank ∙ h.rank;
        citers = counted;
      }

  -- an empty slot is empty again where its cells are the same
  pub empty_same : (i : ℕ) → ((c : ℕ) → 5 * i ≤ c → c < 5 * i + 5 → next.value c ≡ st.value c)
      → next.value (next_cell slots i) ≡ st.value (next_cell slots i) → IsEmpty slots st i → IsEmpty slots next i
  empty_same i same link h =
      record {
        name = same (name_cell i) (omega arith) (omega arith) ∙ h.name;
        statement = same (statement_cell i) (omega arith) (omega arith) ∙ h.statement;
        proof = same (proof_cell i) (omega arith) (omega arith) ∙ h.proof;
        rank = same (rank_cell i) (omega arith) (omega arith) ∙ h.rank;
        citers = same (citers_cell i) (omega arith) (omega arith) ∙ h.citers;
        next = link ∙ h.next;
      }

-- ---- named slots

module _ (slots : ℕ) (st : State) (lib : List Ranked) (shows : Shows slots st lib) (store : AreOfOneStore most_words st.ranges) where
  -- a slot with a name holds an assertion with this label
  pub named_held : (i : ℕ) (label : List ℕ) → IsNamed slots st i label
      → (p : Held) × Has p shows.held × (p.slot ≡ i) × (label_of p.entry ≡ label)
  named_held i label named =
      let h = holder slots st lib shows store i label named in
      (h.0, has_from_contains shows.held h.0 h.1, h.2, h.3)

  pub held_in : (p : Held) → Has p shows.held → Has p.entry lib
  held_in p h = has_from_contains lib p.entry (listed slots st lib shows p (contains_from_has shows.held p h))

  pub held_name : (p : Held) → Has p shows.held → IsNamed slots st p.slot (label_of p.entry)
  held_name p h =
      let holds : Holds slots st lib p.slot p.entry =
      all_has (λ (q : Held). Holds slots st lib q.slot q.entry) shows.held p shows.holds h in holds.name

  -- so the library has this label
  pub named_has : (i : ℕ) (label : List ℕ) → IsNamed slots st i label → has lib label ≡ true
  named_has i label named =
      let p = named_held i label named in
      any_has (is_labelled label) lib p.0.entry (held_in p.0 p.1) (is_labelled-own label p.0.entry p.3)

  -- a slot that is held is not empty
  pub full_slot : (p : Held) → Has p shows.held → IsEmpty slots st p.slot → ⊥
  full_slot p h empty = no_body st (name_cell p.slot) (label_of p.entry) (held_name p h).body empty.name

  pub empty_free : (i : ℕ) → IsEmpty slots st i → Has i (slots_of shows.held) → ⊥
  empty_free i empty h =
      let m = mapped_has (λ (p : Held). p.slot) shows.held i h in
      full_slot m.0 m.1 (subst (IsEmpty slots st) m.2 empty)

  -- ---- steps that cite

  -- a slot that stored steps cite has a name
  pub stored_named : (steps : List Step) (kept : List StoredStep) (i : ℕ) → AreStoredAs slots st steps kept → Has (stored.Slot i) kept
      → (label : List ℕ) × IsNamed slots st i label
  stored_named [] [] i h has = absurd has
  stored_named [] (k ∷ kept) i h has = absurd h
  stored_named (x ∷ steps) [] i h has = absurd h
  stored_named (x ∷ steps) (k ∷ kept) i h (inr has) = stored_named steps kept i h.1 has
  stored_named (x ∷ steps) (k ∷ kept) i h (inl is) = one x k h.0 is
    where
      one : (x : Step) (k : StoredStep) → IsStoredAs (IsNamed slots st) x k → stored.Slot i ≡ k
          → (label : List ℕ) × IsNamed slots st i label
      one x (stored.Float j) h is = absurd cc
      one x (stored.Hyp j) h is = absurd cc
      one (Float m) (stored.Slot j) h is = absurd h
      one (Hyp m) (stored.Slot j) h is = absurd h
      one (Cite l) (stored.Slot j) h is = let e : j ≡ i = cc in (l, subst (λ n. IsNamed slots st n l) e h)

  -- they cite the label of each assertion whose slot they cite
  pub stored_cites : (p : Held) → Has p shows.held → (steps : List Step) (kept : List StoredStep) → AreStoredAs slots st steps kept
      → Has (stored.Slot p.slot) kept → list_any (is_citation (label_of p.entry)) steps ≡ true
  stored_cites p held [] [] h has = absurd has
  stored_cites p held [] (k ∷ kept) h has = absurd h
  stored_cites p held (x ∷ steps) [] h has = absurd h
  stored_cites p held (x ∷ steps) (k ∷ kept) h (inr has) =
      or_right (is_citation (label_of p.entry) x) _ (stored_cites p held steps kept h.1 has)
  stored_cites p held (x ∷ steps) (k ∷ kept) h (inl is) = or_left (is_citation (label_of p.entry) x) _ (one x k h.0 is)
    where
      one : (x : Step) (k : StoredStep) → IsStoredAs (IsNamed slots st) x k → stored.Slot p.slot ≡ k
          → is_citation (label_of p.entry) x ≡ true
      one x (stored.Float j) h is = absurd cc
      one x (stored.Hyp j) h is = absurd cc
      one (Float m) (stored.Slot j) h is = absurd h
      one (Hyp m) (stored.Slot j) h is = absurd h
      one (Cite l) (stored.Slot j) h is =
          let e : j ≡ p.slot = cc in
          let named : IsNamed slots st p.slot l = subst (λ n. IsNamed slots st n l) e h in
          let same = one_body st (name_cell p.slot) (label_of p.entry) l store (held_name p held).body named.body in
          subst (λ m. bytes_eq (label_of p.entry) m ≡ true) same (bytes_eq-same (label_of p.entry))

  -- a label that the library does not have is cited by no stored steps
  pub uncited : (label : List ℕ) → has lib label ≡ false → (steps : List Step) (kept : List StoredStep) → AreStoredAs slots st steps kept
      → list_any (is_citation label) steps ≡ false
  uncited label new [] kept h = refl
  uncited label new (x ∷ steps) [] h = absurd h
  uncited label new (x ∷ steps) (k ∷ kept) h =
      or_from (is_citation label x) (list_any (is_citation label) steps) (one x k h.0) (uncited label new steps kept h.1)
    where
      one : (x : Step) (k : StoredStep) → IsStoredAs (IsNamed slots st) x k → is_citation label x ≡ false
      one (Float m) k h = refl
      one (Hyp m) k h = refl
      one (Cite l) (stored.Float j) h = absurd h
      one (Cite l) (stored.Hyp j) h = absurd h
      one (Cite l) (stored.Slot j) h =
          false_from_ne_true (bytes_eq label l)
          (λ z. both_ways (has lib label) new (named_has j label (subst (IsNamed slots st j) (sym (same_bytes label l z)) h)))

  -- nor by any assertion of it
  pub no_citers : (label : List ℕ) → has lib label ≡ false → citers lib label ≡ 0
  no_citers label new =
      none_counted (cites label) lib (list_any_none (cites label) lib (all_from_has (λ e. cites label e ≡ false) lib (λ e h.
      let m = mapped_has (λ (p : Held). p.entry) shows.held e (subst (Has e) (sym shows.library) h) in
      let holds : Holds slots st lib m.0.slot m.0.entry =
      all_has (λ (q : Held). Holds slots st lib q.slot q.entry) shows.held m.0 shows.holds m.1 in
      subst (λ (x : Ranked). cites label x ≡ false) (sym m.2)
      (by_kind m.0.slot m.0.entry.assertion.kind m.0.entry.assertion.proof holds.proof))))
    where
      by_kind : (i : ℕ) (kind : Kind) (steps : List Step) → HoldsProof slots st i kind steps → list_any (is_citation label) steps ≡ false
      by_kind i Axiom steps h = ap (list_any (is_citation label)) h.1
      by_kind i Theorem steps h = uncited label new steps h.0 h.2

  -- ---- where labels differ

  module _ (apart : Distinct bytes_eq (map label_of lib)) where
    -- one assertion has a label
    pub one_label : (p q : Held) → Has p shows.held → Has q shows.held → label_of p.entry ≡ label_of q.entry → p ≡ q
    one_label p q hp hq e =
        among shows.held (subst (λ (l : List Ranked). Distinct bytes_eq (map label_of l)) (sym shows.library) apart) hp hq
      where
        clash : (held : List Held) (r x : Held) → list_any (bytes_eq (label_of r.entry)) (map label_of (entries_of held)) ≡ false
            → Has x held → label_of x.entry ≡ label_of r.entry → ⊥
        clash held r x none h same =
            both_ways (list_any (bytes_eq (label_of r.entry)) (map label_of (entries_of held))) none
            (any_has (bytes_eq (label_of r.entry)) (map label_of (entries_of held)) (label_of x.entry)
            (has_mapped label_of (entries_of held) x.entry (has_mapped (λ (y : Held). y.entry) held x h))
            (subst (λ l. bytes_eq (label_of r.entry) l ≡ true) (sym same) (bytes_eq-same (label_of r.entry))))

        among : (held : List Held) → Distinct bytes_eq (map label_of (entries_of held)) → Has p held → Has q held → p ≡ q
        among [] d hp hq = absurd hp
        among (r ∷ held) d (inl ep) (inl eq) = ep ∙ sym eq
        among (r ∷ held) d (inl ep) (inr hq) = absurd (clash held r q d.0 hq (sym e ∙ ap (λ (x : Held). label_of x.entry) ep))
        among (r ∷ held) d (inr hp) (inl eq) = absurd (clash held r p d.0 hp (e ∙ ap (λ (x : Held). label_of x.entry) eq))
        among (r ∷ held) d (inr hp) (inr hq) = among held d.1 hp hq

    -- stored steps that cite the label of an assertion cite its slot
    pub cites_stored : (p : Held) → Has p shows.held → (steps : List Step) (kept : List StoredStep) → AreStoredAs slots st steps kept
        → list_any (is_citation (label_of p.entry)) steps ≡ true → Has (stored.Slot p.slot) kept
    cites_stored p held [] kept h cited = absurd (both_ways false refl cited)
    cites_stored p held (x ∷ steps) [] h cited = absurd h
    cites_stored p held (x ∷ steps) (k ∷ kept) h cited =
        ⊎_elim (λ here. inl (one x k h.0 here)) (λ later. inr (cites_stored p held steps kept h.1 later))
        (or_cases (is_citation (label_of p.entry) x) (list_any (is_citation (label_of p.entry)) steps) cited)
      where
        one : (x : Step) (k : StoredStep) → IsStoredAs (IsNamed slots st) x k → is_citation (label_of p.entry) x ≡ true
            → stored.Slot p.slot ≡ k
        one (Float m) k h cited = absurd (both_ways false refl cited)
        one (Hyp m) k h cited = absurd (both_ways false refl cited)
        one (Cite l) (stored.Float j) h cited = absurd h
        one (Cite l) (stored.Hyp j) h cited = absurd h
        one (Cite l) (stored.Slot j) h cited =
            let q = named_held j l h in
            let same : p ≡ q.0 = one_label p q.0 held q.1 (same_bytes (label_of p.entry) l cited ∙ sym q.3) in
            ap stored.Slot (ap (λ (x : Held). x.slot) same ∙ q.2)
