-- For which cells those calls ask that read the steps of a proof, or walk along a chain to a slot.
use Rattle.std.proofs.Common.{◌≡◌, ◌<◌, ℕ, ◌+◌, List, [], ◌∷◌, length, get_or, refl, sym, subst, inl, inr, arith}
use Rattle.std.specs.List.{AllZip}
use Rattle.mmsyntax.specs.declared.statement.Step.{Step}
use Rattle.mmsyntax.specs.declared.statement.Step.TheVariants.{Float, Hyp, Cite}
use Rattle.library.specs.Library.{Setting}
use Rattle.bodystore.specs.declared.stored.StoredStep.{StoredStep}
use Rattle.bodystore.specs.declared.stored.StoredStep.TheVariants as stored
use Rattle.ranges.specs.Ranges.{Has}
use Rattle.cells.specs.State.{State}
use Rattle.cells.specs.Slots.{name_cell, proof_cell, bucket_cell, next_cell}
use Rattle.cells.specs.Shows.{IsNamed, IsStoredAs, AreStoredAs, IsChain}
use Rattle.cells.specs.Sight.{Sight, Looks, ReadsWithin, after}
use Rattle.cells.specs.Lookups.{ForEachHeld, AreStepsAt}
use Rattle.cells.specs.Footprints.{StandsBehind, IsMember, IsOnChain, IsOfProof, IsNameCited}
use Rattle.cells.proofs.Asking.{item_has, asks_cell, asks_wider, asks_more}
use Rattle.cells.proofs.ReadBack.{held_later}
use Rattle.cells.proofs.Sights.{setting_kept}

-- ---- the steps of a proof

-- the name cell of a slot that one of the steps cites
abbrev pub IsNameOfSteps : List StoredStep → ℕ → Type 0
IsNameOfSteps kept c = (j : ℕ) × Has (stored.Slot j) kept × (c ≡ name_cell j)

-- a slot that is cited has the label that is cited
cited_named : (named : ℕ → List ℕ → Type 0) (x : Step) (j : ℕ) → IsStoredAs named x (stored.Slot j) → (label : List ℕ) × (x ≡ Cite label)
    × named j label
cited_named named (Float i) j h = absurd h
cited_named named (Hyp k) j h = absurd h
cited_named named (Cite label) j h = (label, refl, h)

zip_from : {A B : Type 0} (R : A → B → Type 0) (xs : List A) (ys : List B) (y : B) → AllZip R xs ys → Has y ys → (x : A) × Has x xs × R x y
zip_from R [] [] y z h = absurd h
zip_from R [] (w ∷ ys) y z h = absurd z
zip_from R (x ∷ xs) [] y z h = absurd h
zip_from R (x ∷ xs) (w ∷ ys) y z (inl e) = (x, inl refl, subst (R x) (sym e) z.0)
zip_from R (x ∷ xs) (w ∷ ys) y z (inr h) = let rest = zip_from R xs ys y z.1 h in (rest.0, inr rest.1, rest.2)

-- a slot that a stored step cites has a label that the steps cite
pub cited_slot : (slots : ℕ) (steps : List Step) (kept : List StoredStep) (st : State) (j : ℕ) → AreStoredAs slots st steps kept
    → Has (stored.Slot j) kept → (label : List ℕ) × Has (Cite label) steps × IsNamed slots st j label
cited_slot slots steps kept st j are at =
    let z = zip_from (IsStoredAs (IsNamed slots st)) steps kept (stored.Slot j) are at in
    let n = cited_named (IsNamed slots st) z.0 j z.2 in
    (n.0, subst (λ (x : Step). Has x steps) n.1 z.1, n.2)

of_proof : (slots i : ℕ) (steps : List Step) (kept : List StoredStep) (st : State) → AreStoredAs slots st steps kept → (c : ℕ)
    → IsNameOfSteps kept c
    → IsOfProof slots i steps st c
of_proof slots i steps kept st are c at =
    let n = cited_slot slots steps kept st at.0 are at.1 in inr (n.0, at.0, n.1, n.2, at.2)

-- one step of them
pub name_of_one : {O : Type 0} → {s t : Sight O} → (kept : List StoredStep) (i : ℕ) (d : StoredStep) → i < length kept
    → ReadsWithin (IsNameCited (get_or kept i d)) s t → ReadsWithin (IsNameOfSteps kept) s t
name_of_one kept i d lt asks = asks_wider (λ c at. (at.0, subst (λ (x : StoredStep). Has x kept) at.1 (item_has kept i d lt), at.2)) asks

-- the proof cell is read, and then names of what the steps cite that it holds
pub proof_within : {O : Type 0} → (r s t : Sight O) (i : ℕ) (kept : List StoredStep) → Looks r s → Looks s t → AreStepsAt s i kept
    → ReadsWithin (λ c. c ≡ proof_cell i) r s → ReadsWithin (IsNameOfSteps kept) s t
    → ForEachHeld t i (λ st lib e. ReadsWithin (IsOfProof r.setting.slots i e.assertion.proof st) r t)
proof_within r s t i kept first looks steps own names st lib v e at h =
    let there = held_later s t i (λ x l f. AreStoredAs s.setting.slots x f.assertion.proof kept) looks steps st lib v e at h in
    let here : AreStoredAs r.setting.slots (after t st) e.assertion.proof kept =
    subst (λ (x : Setting). AreStoredAs x.slots (after t st) e.assertion.proof kept) (setting_kept first.onward) there in
    asks_more (asks_cell (inl refl) own) (of_proof r.setting.slots i e.assertion.proof kept (after t st) here) names

-- ---- along a chain to a slot

-- the slot that the cell leads to stands in the chain
pub member_of : (slots b cell i : ℕ) (st : State) → IsOnChain slots b st cell → i < slots → st.value cell ≡ i + 1 → IsMember slots st b i
member_of slots b cell i st (inl front) lt is =
    record { within = lt; before = []; behind = subst (λ (n : ℕ). st.value n ≡ i + 1) front is }
member_of slots b cell i st (inr (j, member, at)) lt is =
    record { within = lt; before = j ∷ member.before; behind = (subst (λ (n : ℕ). st.value n ≡ i + 1) at is, member.behind) }

-- ---- in a state that shows a library

module _ (slots : ℕ) (st : State) where
  -- what stands behind slots of a chain is one of its slots
  chain_has : (b : ℕ) (chain before : List ℕ) (i : ℕ) → IsChain slots st chain (st.value (bucket_cell slots b))
      → StandsBehind slots st b before i
      → Has i chain
  chain_has b chain [] i starts at = first chain (st.value (bucket_cell slots b)) starts at
    where
      first : (is : List ℕ) (word : ℕ) → IsChain slots st is word → word ≡ i + 1 → Has i is
      first [] word none is = absurd (omega (arith, none, is))
      first (j ∷ js) word c is = inl (let z = c.1 in omega (arith, z, is))
  chain_has b chain (j ∷ before) i starts at = next chain (st.value (bucket_cell slots b)) starts (chain_has b chain before j starts at.1)
    where
      head : (is : List ℕ) (word : ℕ) → IsChain slots st is word → word ≡ i + 1 → Has i is
      head [] word none is = absurd (omega (arith, none, is))
      head (k ∷ ks) word c is = inl (let z = c.1 in omega (arith, z, is))

      next : (is : List ℕ) (word : ℕ) → IsChain slots st is word → Has j is → Has i is
      next [] word c h = absurd h
      next (k ∷ ks) word c (inl e) =
          inr (head ks (st.value (next_cell slots k)) c.2 (subst (λ (n : ℕ). st.value (next_cell slots n) ≡ i + 1) e at.0))
      next (k ∷ ks) word c (inr h) = inr (next ks (st.value (next_cell slots k)) c.2 h)
