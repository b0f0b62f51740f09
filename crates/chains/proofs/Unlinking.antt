-- Chains of slots: what becomes of them where a slot is taken out.
use Rattle.std.proofs.Common.{◌≡◌, ◌≢◌, ℕ, ◌*◌, ◌<◌, ◌≤◌, Bool, true, false, cond, List, [], ◌∷◌, refl, sym, ap, subst, ◌∙◌}
use Rattle.std.proofs.Common.{◌⊎◌, inl, inr, ⊎_elim, arith, nat_eq}
use Rattle.std.specs.Prelude.{filter, IsPermutation, ◌==◌}
use mathlib.Core.Bool.{not}
use Rattle.std.proofs.lemmas.Bool.{cases_Bool, cases_eq, cond-true, cond-false, eq-eqb, eqb-true, eqb-false, ne_eqb, not_from_true, not_from_false, not-true}
use Rattle.std.proofs.lemmas.List.Sorted.{IsPermutation-sym}
use Rattle.mmsyntax.specs.Assertions.{Distinct}
use Rattle.library.specs.Library.{label_of}
use Rattle.ranges.specs.Ranges.{Has}
use Rattle.cells.specs.State.{State}
use Rattle.cells.specs.Slots.{bucket_cell, next_cell, bucket}
use Rattle.cells.specs.Shows.{Held, slots_of, of_bucket, IsChain, IsChained, AreChained}
use Rattle.chains.specs.Chains.{Rechains, without_slot}
use Rattle.ranges.proofs.Members.{has_mapped, mapped_has, has_filtered, filtered_has, has_permutation, absent}
use Rattle.cells.proofs.Tallies.{filter_permutation, filter_all, distinct_permutation, distinct_filtered}
use Rattle.cells.proofs.Ones.{one_and_others}
use Rattle.cells.proofs.Linking.{bucket_has, one_bucket, chain_kept, chain_within}

-- ---- the assertions but the one in the slot

abbrev is_other : ℕ → ℕ → Bool
is_other slot i = not (i == slot)

-- its slot is not among the others
pub slot_gone : (held : List Held) (slot : ℕ) → Has slot (slots_of (without_slot slot held)) → ⊥
slot_gone held slot h =
    let m = mapped_has (λ (p : Held). p.slot) (without_slot slot held) slot h in
    let f = filtered_has (λ (p : Held). is_other slot p.slot) held m.0 m.1 in
    eqb-false m.0.slot slot (not-true (m.0.slot == slot) f.1) (sym m.2)

pub slot_stays : (held : List Held) (slot i : ℕ) → Has i (slots_of held) → i ≢ slot → Has i (slots_of (without_slot slot held))
slot_stays held slot i h ne =
    let m = mapped_has (λ (p : Held). p.slot) held i h in
    subst (λ n. Has n (slots_of (without_slot slot held))) (sym m.2)
    (has_mapped (λ (p : Held). p.slot) (without_slot slot held) m.0
    (has_filtered (λ (p : Held). is_other slot p.slot) held m.0 m.1
    (not_from_false (m.0.slot == slot) (ne_eqb m.0.slot slot (λ e. ne (m.2 ∙ e))))))

pub slot_was : (held : List Held) (slot i : ℕ) → Has i (slots_of (without_slot slot held)) → Has i (slots_of held)
slot_was held slot i h =
    let m = mapped_has (λ (p : Held). p.slot) (without_slot slot held) i h in
    let f = filtered_has (λ (p : Held). is_other slot p.slot) held m.0 m.1 in
    subst (λ n. Has n (slots_of held)) (sym m.2) (has_mapped (λ (p : Held). p.slot) held m.0 f.0)

-- the one in the slot, and the others
pub slot_and_others : (held : List Held) (p : Held) → Distinct nat_eq (slots_of held) → Has p held
    → IsPermutation held (p ∷ without_slot p.slot held)
slot_and_others held p d h =
    one_and_others nat_eq (λ (q : Held). q.slot) (λ (q : Held). q.slot == p.slot) p.slot eq-eqb (λ q so. eqb-true q.slot p.slot so)
    held p d h (eq-eqb p.slot p.slot refl)

module _ (slots slot : ℕ) where
  bucket_without : (held : List Held) (b : ℕ)
      → slots_of (of_bucket slots b (without_slot slot held)) ≡ filter (is_other slot) (slots_of (of_bucket slots b held))
  bucket_without [] b = refl
  bucket_without (p ∷ held) b =
      let rest = of_bucket slots b held in
      let others = without_slot slot held in
      let left = of_bucket slots b others in
      let ih = bucket_without held b in
      elim (cases_Bool (is_other slot p.slot)) [
        | inl kept ↦
            ap (λ (l : List Held). slots_of (of_bucket slots b l)) (cond-true (is_other slot p.slot) (p ∷ others) others kept)
            ∙ elim (bucket slots (label_of p.entry) == b) as
            (λ t. slots_of (cond t (p ∷ left) left) ≡ filter (is_other slot) (slots_of (cond t (p ∷ rest) rest))) [
              | true ↦ ap (λ l. p.slot ∷ l) ih ∙ sym (cond-true (is_other slot p.slot) _ _ kept)
              | false ↦ ih
            ]
        | inr gone ↦
            ap (λ (l : List Held). slots_of (of_bucket slots b l)) (cond-false (is_other slot p.slot) (p ∷ others) others gone)
            ∙ elim (bucket slots (label_of p.entry) == b) as
            (λ t. slots_of left ≡ filter (is_other slot) (slots_of (cond t (p ∷ rest) rest))) [
              | true ↦ ih ∙ sym (cond-false (is_other slot p.slot) _ _ gone)
              | false ↦ ih
            ]
      ]

  -- ---- out of one chain

  -- the cell that leads to the slot, along the chain that a cell begins
  abbrev pub leading : ℕ → List ℕ → ℕ
  leading cell [] = cell
  leading cell (i ∷ is) = cond (i == slot) cell (leading (next_cell slots i) is)

  -- it is the first cell, or the next cell of another slot of the chain
  pub leading_is : (cell : ℕ) (is : List ℕ)
      → (leading cell is ≡ cell) ⊎ ((j : ℕ) × Has j is × (j ≢ slot) × (leading cell is ≡ next_cell slots j))
  leading_is cell [] = inl refl
  leading_is cell (i ∷ is) =
      elim (cases_Bool (i == slot)) [
        | inl so ↦ inl (cond-true (i == slot) cell (leading (next_cell slots i) is) so)
        | inr other ↦
            let e = cond-false (i == slot) cell (leading (next_cell slots i) is) other in
            ⊎_elim
            (λ here. inr (i, inl refl, eqb-false i slot other, e ∙ here))
            (λ (r : (j : ℕ) × Has j is × (j ≢ slot) × (leading (next_cell slots i) is ≡ next_cell slots j)). inr
            (r.0, inr r.1, r.2, e ∙ r.3))
            (leading_is (next_cell slots i) is)
      ]

  -- the cell that led to the slot leads to what came behind it, and the slot's own next cell is 0
  pub record TakesOut (st next : State) (before : ℕ) : Type 0 where
    pub past : next.value before ≡ st.value (next_cell slots slot)
    pub gone : next.value (next_cell slots slot) ≡ 0
    pub others : (c : ℕ) → c ≢ before → c ≢ next_cell slots slot → next.value c ≡ st.value c

  cut : (st next : State) (cell : ℕ) (is : List ℕ) → IsChain slots st is (st.value cell) → Distinct nat_eq is → Has slot is
      → ((j : ℕ) → Has j is → cell ≢ next_cell slots j) → TakesOut st next (leading cell is)
      → IsChain slots next (filter (is_other slot) is) (next.value cell)
  cut st next cell [] h d has apart takes = absurd has
  cut st next cell (i ∷ is) h d has apart takes =
      elim (cases_Bool (i == slot)) [
        | inl so ↦
            let e : i ≡ slot = eqb-true i slot so in
            let at : leading cell (i ∷ is) ≡ cell = cond-true (i == slot) cell (leading (next_cell slots i) is) so in
            let free : Has slot is → ⊥ = subst (λ n. Has n is → ⊥) e (absent is i d.0) in
            let kept : filter (is_other slot) (i ∷ is) ≡ is =
            cond-false (is_other slot i) _ _ (not_from_true (i == slot) so)
            ∙ filter_all (is_other slot) is (λ j hj. not_from_false (j == slot) (ne_eqb j slot (λ z. free (subst (λ n. Has n is) z hj)))) in
            let past : next.value cell ≡ st.value (next_cell slots i) =
            ap next.value (sym at) ∙ takes.past ∙ ap (λ n. st.value (next_cell slots n)) (sym e) in
            subst (λ l. IsChain slots next l (next.value cell)) (sym kept)
            (subst (IsChain slots next is) (sym past)
            (chain_kept slots st next is _ (λ j hj within.
            takes.others (next_cell slots j) (λ z. apart j (inr hj) (sym (z ∙ at)))
            (λ z. free (subst (λ n. Has n is) (omega (arith, z)) hj))) h.2))
        | inr other ↦
            let at : leading cell (i ∷ is) ≡ leading (next_cell slots i) is =
            cond-false (i == slot) cell (leading (next_cell slots i) is) other in
            let takes' = subst (TakesOut st next) at takes in
            let has' : Has slot is = ⊎_elim (λ z. absurd (eqb-false i slot other (sym z))) (λ z. z) has in
            let rest = cut st next (next_cell slots i) is h.2 d.1 has'
            (λ j hj z. absent is i d.0 (subst (λ n. Has n is) (omega (arith, z)) hj)) takes' in
            let apart_from : cell ≢ leading (next_cell slots i) is =
            ⊎_elim
            (λ first z. apart i (inl refl) (z ∙ first))
            (λ (r : (j : ℕ) × Has j is × (j ≢ slot) × (leading (next_cell slots i) is ≡ next_cell slots j)) z. apart r.0 (inr r.1)
            (z ∙ r.3))
            (leading_is (next_cell slots i) is) in
            let same : next.value cell ≡ st.value cell = takes'.others cell apart_from (apart slot has) in
            let kept : filter (is_other slot) (i ∷ is) ≡ i ∷ filter (is_other slot) is =
            cond-true (is_other slot i) _ _ (not_from_false (i == slot) other) in
            subst (λ l. IsChain slots next l (next.value cell)) (sym kept) (h.0, same ∙ h.1, rest)
      ]

  -- ---- out of all chains

  module _ (st next : State) (held : List Held) (b0 : ℕ) (lt : b0 < slots) (chained : AreChained slots st held)
      (distinct : Distinct nat_eq (slots_of held)) (own : Has slot (slots_of (of_bucket slots b0 held))) where
    abbrev chain : List ℕ
    chain = (chained b0 lt).chain

    abbrev before : ℕ
    before = leading (bucket_cell slots b0) chain

    in_chain : (b : ℕ) (within : b < slots) (i : ℕ) → Has i (chained b within).chain → Has i (slots_of (of_bucket slots b held))
    in_chain b within i h = has_permutation _ _ i (IsPermutation-sym _ _ (chained b within).has) h

    was_held : (b i : ℕ) → Has i (slots_of (of_bucket slots b held)) → Has i (slots_of held)
    was_held b i h =
        let p = bucket_has slots held b i h in
        subst (λ n. Has n (slots_of held)) (sym p.3) (has_mapped (λ (q : Held). q.slot) held p.0 p.1)

    in_slots : slot < slots
    in_slots = chain_within slots st chain _ slot (chained b0 lt).starts (has_permutation _ _ slot (chained b0 lt).has own)

    before_is : (before ≡ bucket_cell slots b0) ⊎ ((j : ℕ) × Has j chain × (j ≢ slot) × (before ≡ next_cell slots j))
    before_is = leading_is (bucket_cell slots b0) chain

    before_high : 5 * slots ≤ before
    before_high = ⊎_elim (λ first. omega (arith, first))
        (λ (r : (j : ℕ) × Has j chain × (j ≢ slot) × (before ≡ next_cell slots j)). omega (arith, r.3)) before_is

    -- a next cell that leads to the slot is that of a slot of its bucket
    before_next : (i : ℕ) → next_cell slots i ≡ before → Has i (slots_of (of_bucket slots b0 held))
    before_next i e =
        ⊎_elim (λ first. absurd (omega (arith, lt, first, e)))
        (λ (r : (j : ℕ) × Has j chain × (j ≢ slot) × (before ≡ next_cell slots j)).
        subst (λ n. Has n (slots_of (of_bucket slots b0 held))) (let z = r.3 in omega (arith, z, e)) (in_chain b0 lt r.0 r.1))
        before_is

    module _ (takes : TakesOut st next before) where
      here : IsChained slots next (without_slot slot held) b0
      here =
          let c = chained b0 lt in
          record {
            chain = filter (is_other slot) chain;
            starts = cut st next (bucket_cell slots b0) chain c.starts
                (distinct_permutation _ _ c.has
                (distinct_filtered (λ (p : Held). bucket slots (label_of p.entry) == b0) (λ (p : Held). p.slot) held distinct))
                (has_permutation _ _ slot c.has own) (λ j has z. omega (arith, lt, z)) takes;
            has = subst (λ l. IsPermutation l (filter (is_other slot) chain)) (sym (bucket_without held b0))
                (filter_permutation (is_other slot) _ _ c.has);
          }

      there : (b : ℕ) (within : b < slots) → b0 ≢ b → IsChained slots next (without_slot slot held) b
      there b within ne =
          let c = chained b within in
          let not_own : Has slot (slots_of (of_bucket slots b held)) → ⊥ = λ h. ne (one_bucket slots held b0 b slot distinct own h) in
          let same : next.value (bucket_cell slots b) ≡ st.value (bucket_cell slots b) =
          takes.others (bucket_cell slots b)
          (λ z. ⊎_elim (λ first. ne (omega (arith, first, z))) (λ (r : (j : ℕ) × Has j chain × (j ≢ slot) × (before ≡ next_cell slots j)).
          let e = r.3 in omega (arith, within, z, e)) before_is)
          (λ z. omega (arith, within, z)) in
          let all : slots_of (of_bucket slots b (without_slot slot held)) ≡ slots_of (of_bucket slots b held) =
          bucket_without held b ∙ filter_all (is_other slot) (slots_of (of_bucket slots b held))
          (λ i h. not_from_false (i == slot) (ne_eqb i slot (λ z. not_own (subst (λ n. Has n (slots_of (of_bucket slots b held))) z h)))) in
          record {
            chain = c.chain;
            starts = subst (IsChain slots next c.chain) (sym same) (chain_kept slots st next c.chain _ (λ i has w.
                takes.others (next_cell slots i)
                (λ z. ne (one_bucket slots held b0 b i distinct (before_next i z) (in_chain b within i has)))
                (λ z. not_own (subst (λ n. Has n (slots_of (of_bucket slots b held))) (omega (arith, z))
                (in_chain b within i has)))) c.starts);
            has = subst (λ l. IsPermutation l c.chain) (sym all) c.has;
          }

      pub unlink : Rechains slots st next held (without_slot slot held)
      unlink =
          record {
            chained = λ b within. elim (cases_eq b0 b) [
              | inl eq ↦ subst (IsChained slots next (without_slot slot held)) eq here
              | inr ne ↦ there b within ne
            ];
            cells = λ c low. takes.others c (λ z. omega (arith, low, before_high, z)) (omega (arith, low));
            others = λ i within out gone. takes.others (next_cell slots i)
                (λ z. out (was_held b0 i (before_next i z)))
                (λ z. out (subst (λ n. Has n (slots_of held)) (omega (arith, z)) (was_held b0 slot own)));
            out = λ i had gone.
                ⊎_elim (λ eq. ap (λ n. next.value (next_cell slots n)) eq ∙ takes.gone)
                (λ ne. absurd (gone (slot_stays held slot i had ne)))
                (cases_eq i slot);
          }
