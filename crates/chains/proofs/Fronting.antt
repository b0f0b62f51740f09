-- Chains of slots: what becomes of them where a slot is put in front of one.
use Rattle.std.proofs.Common.{◌≡◌, ◌≢◌, ℕ, ◌+◌, ◌<◌, List, ◌∷◌, sym, ap, subst, ◌∙◌}
use Rattle.std.proofs.Common.{inl, inr, arith}
use Rattle.std.specs.Prelude.{IsPermutation, ◌==◌}
use Rattle.std.proofs.lemmas.Bool.{cases_eq, cond-true, cond-false, eq-eqb, ne_eqb}
use Rattle.std.proofs.lemmas.List.Sorted.{IsPermutation-cons, IsPermutation-sym}
use Rattle.library.specs.declared.library.Ranked.{Ranked}
use Rattle.library.specs.Library.{label_of}
use Rattle.ranges.specs.Ranges.{Has}
use Rattle.cells.specs.State.{State}
use Rattle.cells.specs.Slots.{bucket_cell, next_cell, bucket}
use Rattle.cells.specs.Shows.{Held, slots_of, of_bucket, IsChain, IsChained, AreChained}
use Rattle.chains.specs.Chains.{Rechains}
use Rattle.ranges.proofs.Members.{has_mapped, has_permutation}
use Rattle.cells.proofs.Linking.{bucket_has, chain_kept}

module _ (slots : ℕ) where
  -- the slot is put in front of the chain of the bucket
  pub record PutsFront (st next : State) (slot b : ℕ) : Type 0 where
    pub front : next.value (bucket_cell slots b) ≡ slot + 1
    pub link : next.value (next_cell slots slot) ≡ st.value (bucket_cell slots b)
    pub others : (c : ℕ) → c ≢ bucket_cell slots b → c ≢ next_cell slots slot → next.value c ≡ st.value c

  pub put_front : (st next : State) (held : List Held) (slot : ℕ) (e : Ranked) → slot < slots → bucket slots (label_of e) < slots
      → AreChained slots st held → (Has slot (slots_of held) → ⊥) → PutsFront st next slot (bucket slots (label_of e))
      → Rechains slots st next held (record { slot = slot; entry = e } ∷ held)
  put_front st next held slot e in_slots in_buckets chained free puts =
      record {
        chained = λ b lt. elim (cases_eq (bucket slots (label_of e)) b) [ inl eq ↦ here b lt eq | inr ne ↦ there b lt ne ];
        cells = λ c lt. puts.others c (omega (arith, lt)) (omega (arith, lt));
        others = λ i lt out gone. puts.others (next_cell slots i) (omega (arith, in_buckets)) (λ z. gone (inl (omega (arith, z))));
        out = λ i had gone. absurd (gone (inr had));
      }
    where
      b0 : ℕ
      b0 = bucket slots (label_of e)

      kept : (b : ℕ) (lt : b < slots) (word : ℕ) → IsChain slots st (chained b lt).chain word → IsChain slots next (chained b lt).chain word
      kept b lt word h =
          chain_kept slots st next (chained b lt).chain word (λ i has within.
          puts.others (next_cell slots i) (omega (arith, in_buckets)) (λ z.
          let p = bucket_has slots held b i (has_permutation _ _ i (IsPermutation-sym _ _ (chained b lt).has) has) in
          free (subst (λ n. Has n (slots_of held)) (sym p.3 ∙ omega (arith, z)) (has_mapped (λ (q : Held). q.slot) held p.0 p.1)))) h

      here : (b : ℕ) (lt : b < slots) → bucket slots (label_of e) ≡ b → IsChained slots next (record { slot = slot; entry = e } ∷ held) b
      here b lt eq =
          let c = chained b lt in
          let rest = of_bucket slots b held in
          let more : of_bucket slots b (record { slot = slot; entry = e } ∷ held) ≡ record { slot = slot; entry = e } ∷ rest =
          cond-true (bucket slots (label_of e) == b) _ _ (eq-eqb (bucket slots (label_of e)) b eq) in
          record {
            chain = slot ∷ c.chain;
            starts = (
              in_slots,
              ap (λ n. next.value (bucket_cell slots n)) (sym eq) ∙ puts.front,
              subst (IsChain slots next c.chain) (sym (puts.link ∙ ap (λ n. st.value (bucket_cell slots n)) eq)) (kept b lt _ c.starts),
            );
            has = subst (λ (l : List Held). IsPermutation (slots_of l) (slot ∷ c.chain)) (sym more) (IsPermutation-cons slot _ _ c.has);
          }

      there : (b : ℕ) (lt : b < slots) → (bucket slots (label_of e) ≡ b → ⊥)
          → IsChained slots next (record { slot = slot; entry = e } ∷ held) b
      there b lt ne =
          let c = chained b lt in
          let rest = of_bucket slots b held in
          let same : of_bucket slots b (record { slot = slot; entry = e } ∷ held) ≡ rest =
          cond-false (bucket slots (label_of e) == b) _ _ (ne_eqb (bucket slots (label_of e)) b ne) in
          let front : next.value (bucket_cell slots b) ≡ st.value (bucket_cell slots b) =
          puts.others (bucket_cell slots b) (λ z. ne (omega (arith, z))) (omega (arith, lt)) in
          record {
            chain = c.chain;
            starts = subst (IsChain slots next c.chain) (sym front) (kept b lt _ c.starts);
            has = subst (λ (l : List Held). IsPermutation (slots_of l) c.chain) (sym same) c.has;
          }
