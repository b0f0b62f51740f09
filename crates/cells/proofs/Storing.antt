-- Steps that stay stored where the names of slots change.
use Rattle.std.proofs.Common.{◌≡◌, ℕ, List, [], ◌∷◌, map, refl, ap, ◌∙◌, inl, inr}
use Rattle.mmsyntax.specs.declared.statement.Kind.{Kind}
use Rattle.mmsyntax.specs.declared.statement.Kind.TheVariants.{Axiom, Theorem}
use Rattle.mmsyntax.specs.declared.statement.Step.{Step}
use Rattle.mmsyntax.specs.declared.statement.Step.TheVariants.{Float, Hyp, Cite}
use Rattle.derivation.specs.Laws.{step_relabelled}
use Rattle.ranges.specs.Ranges.{Has}
use Rattle.bodystore.specs.declared.stored.StoredStep.{StoredStep}
use Rattle.bodystore.specs.declared.stored.StoredStep.TheVariants as stored
use Rattle.cells.specs.State.{State}
use Rattle.cells.specs.Slots.{proof_cell}
use Rattle.cells.specs.Shows.{IsNamed, IsStoredAs, AreStoredAs, HoldsProof}
use Rattle.cells.proofs.Bodies.{body_same}

-- where the slot of each cited label has the label that it becomes, the same stored steps are those of the relabelled proof
pub stored_relabelled : (slots : ℕ) (st next : State) (change : List ℕ → List ℕ) (steps : List Step) (kept : List StoredStep)
    → ((i : ℕ) (label : List ℕ) → Has (Cite label) steps → IsNamed slots st i label → IsNamed slots next i (change label))
    → AreStoredAs slots st steps kept → AreStoredAs slots next (map (step_relabelled change) steps) kept
stored_relabelled slots st next change [] [] named h = tt
stored_relabelled slots st next change [] (k ∷ kept) named h = absurd h
stored_relabelled slots st next change (x ∷ steps) [] named h = absurd h
stored_relabelled slots st next change (x ∷ steps) (k ∷ kept) named h = (
  one x k (λ i label is. named i label (inl is)) h.0,
  stored_relabelled slots st next change steps kept (λ i label has. named i label (inr has)) h.1,
)
  where
    one : (x : Step) (k : StoredStep) → ((i : ℕ) (label : List ℕ) → Cite label ≡ x → IsNamed slots st i label
        → IsNamed slots next i (change label))
        → IsStoredAs (IsNamed slots st) x k → IsStoredAs (IsNamed slots next) (step_relabelled change x) k
    one (Float i) (stored.Float j) to h = h
    one (Float i) (stored.Hyp j) to h = absurd h
    one (Float i) (stored.Slot j) to h = absurd h
    one (Hyp i) (stored.Float j) to h = absurd h
    one (Hyp i) (stored.Hyp j) to h = h
    one (Hyp i) (stored.Slot j) to h = absurd h
    one (Cite l) (stored.Float j) to h = absurd h
    one (Cite l) (stored.Hyp j) to h = absurd h
    one (Cite l) (stored.Slot j) to h = to j l refl h

-- and so is the proof of an assertion held
pub proof_relabelled : (slots : ℕ) (st next : State) (change : List ℕ → List ℕ) (i : ℕ) (kind : Kind) (steps : List Step)
    → next.ranges ≡ st.ranges
    → next.value (proof_cell i) ≡ st.value (proof_cell i)
    → ((j : ℕ) (label : List ℕ) → Has (Cite label) steps → IsNamed slots st j label → IsNamed slots next j (change label))
    → HoldsProof slots st i kind steps → HoldsProof slots next i kind (map (step_relabelled change) steps)
proof_relabelled slots st next change i Axiom steps ranges same named h = (same ∙ h.0, ap (map (step_relabelled change)) h.1)
proof_relabelled slots st next change i Theorem steps ranges same named h =
    (h.0, body_same st next (proof_cell i) _ ranges same h.1, stored_relabelled slots st next change steps h.0 named h.2)

-- a change that leaves labels as they are leaves steps as they are
pub relabelled_none : (steps : List Step) → map (step_relabelled (λ label. label)) steps ≡ steps
relabelled_none [] = refl
relabelled_none (Float i ∷ steps) = ap (λ l. Float i ∷ l) (relabelled_none steps)
relabelled_none (Hyp k ∷ steps) = ap (λ l. Hyp k ∷ l) (relabelled_none steps)
relabelled_none (Cite label ∷ steps) = ap (λ l. Cite label ∷ l) (relabelled_none steps)
