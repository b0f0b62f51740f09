-- Chains of slots: who stands in them, and what becomes of them where other cells change.
use Rattle.std.proofs.Common.{◌≡◌, ℕ, ◌+◌, ◌*◌, ◌<◌, ◌≤◌, true, false, cond, List, [], ◌∷◌, length, map, refl, sym, ap, subst, ◌∙◌}
use Rattle.std.proofs.Common.{inl, inr, arith, nat_eq}
use Rattle.std.specs.Prelude.{filter, fold, IsPermutation, ◌==◌, ◌%◌}
use Rattle.std.proofs.lemmas.Bool.{eqb-true, eq-eqb}
use Rattle.std.proofs.lemmas.List.{length-map}
use Rattle.std.proofs.lemmas.List.Sums.{length-filter, count_by-le-length}
use Rattle.std.proofs.lemmas.List.Sorted.{IsPermutation-sym, IsPermutation-trans, length_permutation}
use Rattle.mmsyntax.specs.Assertions.{Distinct}
use Rattle.mmsyntax.specs.Dotted.{trunk}
use Rattle.library.specs.Library.{label_of}
use Rattle.ranges.specs.Ranges.{Has}
use Rattle.cells.specs.State.{State}
use Rattle.cells.specs.Slots.{bucket_cell, next_cell, bucket}
use Rattle.cells.specs.Shows.{Held, slots_of, of_bucket, IsChain, IsChained, AreChained}
use Rattle.ranges.proofs.Members.{has_mapped, mapped_has, has_filtered, filtered_has, has_permutation, absent}
use Rattle.cells.proofs.Tallies.{filtered_permutation}

-- a label's bucket is one of the buckets
pub bucket_within : (slots : ℕ) (label : List ℕ) → 1 ≤ slots → bucket slots label < slots
bucket_within slots label some = along (trunk label) 0 some
  where
    along : (bytes : List ℕ) (h : ℕ) → h < slots → fold (λ h byte. (31 * h + byte) % slots) h bytes < slots
    along [] h lt = lt
    along (byte ∷ bytes) h lt = along bytes ((31 * h + byte) % slots) (omega arith)

-- ---- who stands in a chain

-- one slot holds one assertion
pub one_held : (held : List Held) (p q : Held) → Distinct nat_eq (slots_of held) → Has p held → Has q held → p.slot ≡ q.slot → p ≡ q
one_held [] p q d hp hq e = absurd hp
one_held (r ∷ held) p q d (inl ep) (inl eq) e = ep ∙ sym eq
one_held (r ∷ held) p q d (inl ep) (inr hq) e =
    let there : Has q.slot (slots_of held) = has_mapped (λ (x : Held). x.slot) held q hq in
    absurd (absent (slots_of held) r.slot d.0 (subst (λ n. Has n (slots_of held)) (sym e ∙ ap (λ (x : Held). x.slot) ep) there))
one_held (r ∷ held) p q d (inr hp) (inl eq) e =
    let there : Has p.slot (slots_of held) = has_mapped (λ (x : Held). x.slot) held p hp in
    absurd (absent (slots_of held) r.slot d.0 (subst (λ n. Has n (slots_of held)) (e ∙ ap (λ (x : Held). x.slot) eq) there))
one_held (r ∷ held) p q d (inr hp) (inr hq) e = one_held held p q d.1 hp hq e

module _ (slots : ℕ) where
  -- a slot of a bucket holds an assertion whose label is of the bucket
  pub bucket_has : (held : List Held) (b i : ℕ) → Has i (slots_of (of_bucket slots b held))
      → (p : Held) × Has p held × (bucket slots (label_of p.entry) ≡ b) × (i ≡ p.slot)
  bucket_has held b i h =
      let m = mapped_has (λ (p : Held). p.slot) (of_bucket slots b held) i h in
      let f = filtered_has (λ (p : Held). bucket slots (label_of p.entry) == b) held m.0 m.1 in
      (m.0, f.0, eqb-true (bucket slots (label_of m.0.entry)) b f.1, m.2)

  pub has_bucket : (held : List Held) (p : Held) → Has p held
      → Has p.slot (slots_of (of_bucket slots (bucket slots (label_of p.entry)) held))
  has_bucket held p h =
      let b = bucket slots (label_of p.entry) in
      has_mapped (λ (q : Held). q.slot) (of_bucket slots b held) p
      (has_filtered (λ (q : Held). bucket slots (label_of q.entry) == b) held p h (eq-eqb b b refl))

  -- a chain has no more slots than there are assertions held
  pub chain_few : (st : State) (held : List Held) (b : ℕ) (c : IsChained slots st held b) → length c.chain ≤ length held
  chain_few st held b c =
      let of = λ (p : Held). bucket slots (label_of p.entry) == b in
      let some = of_bucket slots b held in
      omega (
        arith,
        length_permutation (slots_of some) c.chain c.has,
        length-map some (λ (p : Held). p.slot),
        length-filter of held,
        count_by-le-length of held,
      )

  -- a slot is of one bucket
  pub one_bucket : (held : List Held) (b c i : ℕ) → Distinct nat_eq (slots_of held) → Has i (slots_of (of_bucket slots b held))
      → Has i (slots_of (of_bucket slots c held)) → b ≡ c
  one_bucket held b c i d hb hc =
      let p = bucket_has held b i hb in
      let q = bucket_has held c i hc in
      let same : p.0 ≡ q.0 = one_held held p.0 q.0 d p.1 q.1 (sym p.3 ∙ q.3) in
      sym p.2 ∙ ap (λ (x : Held). bucket slots (label_of x.entry)) same ∙ q.2

  pub chain_within : (st : State) (is : List ℕ) (word i : ℕ) → IsChain slots st is word → Has i is → i < slots
  chain_within st [] word i h has = absurd has
  chain_within st (j ∷ is) word i h (inl e) = subst (λ n. n < slots) (sym e) h.0
  chain_within st (j ∷ is) word i h (inr has) = chain_within st is _ i h.2 has

  -- ---- other cells

  -- a chain stays where the next cells of its slots do
  pub chain_kept : (st next : State) (is : List ℕ) (word : ℕ)
      → ((i : ℕ) → Has i is → i < slots → next.value (next_cell slots i) ≡ st.value (next_cell slots i)) → IsChain slots st is word
      → IsChain slots next is word
  chain_kept st next [] word same h = h
  chain_kept st next (i ∷ is) word same h =
      (h.0, h.1, subst (IsChain slots next is) (sym (same i (inl refl) h.0)) (chain_kept st next is _ (λ j has. same j (inr has)) h.2))

  -- the chains stay where the bucket cells do and the next cells of the slots in them
  pub chains_kept : (st next : State) (held : List Held)
      → ((b : ℕ) → b < slots → next.value (bucket_cell slots b) ≡ st.value (bucket_cell slots b))
      → ((i : ℕ) → Has i (slots_of held) → next.value (next_cell slots i) ≡ st.value (next_cell slots i)) → AreChained slots st held
      → AreChained slots next held
  chains_kept st next held fronts links chained b lt =
      let c = chained b lt in
      record {
        chain = c.chain;
        starts = subst (IsChain slots next c.chain) (sym (fronts b lt)) (chain_kept st next c.chain _ (λ i has within.
            let p = bucket_has held b i (has_permutation _ _ i (IsPermutation-sym _ _ c.has) has) in
            links i (subst (λ n. Has n (slots_of held)) (sym p.3) (has_mapped (λ (q : Held). q.slot) held p.0 p.1))) c.starts);
        has = c.has;
      }

  -- ---- other lists of assertions in slots

  -- a slot with its label: all that the chains are of
  abbrev pub seat : Held → ℕ × List ℕ
  seat p = (p.slot, label_of p.entry)

  seats : (held : List Held) (b : ℕ)
      → slots_of (of_bucket slots b held) ≡ map (λ s. s.0) (filter (λ (s : ℕ × List ℕ). bucket slots s.1 == b) (map seat held))
  seats [] b = refl
  seats (p ∷ held) b =
      let rest = of_bucket slots b held in
      let mapped = filter (λ (s : ℕ × List ℕ). bucket slots s.1 == b) (map seat held) in
      elim (bucket slots (label_of p.entry) == b) as
      (λ t. slots_of (cond t (p ∷ rest) rest) ≡ map (λ s. s.0) (cond t (seat p ∷ mapped) mapped)) [
        | true ↦ ap (λ l. p.slot ∷ l) (seats held b)
        | false ↦ seats held b
      ]

  -- the chains of some are the chains of others in the same slots with the same labels, in whatever order
  pub chains_alike : (st : State) (held then : List Held) → IsPermutation (map seat held) (map seat then) → AreChained slots st held
      → AreChained slots st then
  chains_alike st held then m chained b lt =
      let c = chained b lt in
      let same : IsPermutation (slots_of (of_bucket slots b held)) (slots_of (of_bucket slots b then)) =
      subst (λ l. IsPermutation l (slots_of (of_bucket slots b then))) (sym (seats held b))
      (subst (IsPermutation (map (λ s. s.0) (filter (λ (s : ℕ × List ℕ). bucket slots s.1 == b) (map seat held)))) (sym (seats then b))
      (filtered_permutation (λ (s : ℕ × List ℕ). bucket slots s.1 == b) (λ s. s.0) (map seat held) (map seat then) m)) in
      record { chain = c.chain; starts = c.starts; has = IsPermutation-trans _ _ _ (IsPermutation-sym _ _ same) c.has }
