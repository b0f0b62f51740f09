-- What becomes of a state where an assertion is put into an empty slot.
use Rattle.std.specs.Prelude.{◌≡◌, ◌≢◌, ◌<◌, ◌≤◌, ◌⊎◌, ℕ, ◌+◌, ◌*◌, List, [], ◌∷◌, ◌++◌, length, false}
use Rattle.mmsyntax.specs.declared.statement.Assertion.{Assertion}
use Rattle.mmsyntax.specs.declared.statement.Kind.{Kind}
use Rattle.mmsyntax.specs.declared.statement.Kind.TheVariants.{Theorem, Axiom}
use Rattle.library.specs.declared.library.Ranked.{Ranked}
use Rattle.library.specs.Edits.{has, added}
use Rattle.ranges.specs.Ranges.{Has}
use Rattle.bodystore.specs.declared.stored.StoredStep.{StoredStep}
use Rattle.bodystore.specs.declared.stored.StoredStep.TheVariants.{Slot}
use Rattle.bodystore.specs.Bodies.{label_body, statement_of, statement_body, proof_body}
use Rattle.cells.specs.State.{State, HasBody}
use Rattle.cells.specs.Slots.{name_cell, statement_cell, proof_cell, rank_cell, citers_cell}
use Rattle.cells.specs.Shows.{Held, IsEmpty, AreStoredAs, ShowsHeld}
use Rattle.cells.specs.Aside.{IsOfSlot, IsOfFront, IsCitersOfCited}
use Rattle.cells.specs.Sight.{Sight, Matches, Views, after, Turns}

-- an assertion that may be put into the slot of a library that is shown: the slot is empty, nobody has the label, and the steps are stored
pub record MayFill (slots : ℕ) (st : State) (lib : List Ranked) (i : ℕ) (a : Assertion) (kept : List StoredStep) : Type 0 where
  pub empty : IsEmpty slots st i
  pub new : has lib a.label ≡ false
  pub stored : AreStoredAs slots st a.proof kept

-- with it the state shows the library with this assertion behind the others: the slot holds it, and the others are held where they were
abbrev pub Fills : ℕ → State → List Ranked → List Held → ℕ → ℕ → Assertion → Type 0
Fills slots next lib held i rank a =
    ShowsHeld slots next (added lib rank a) (held ++ record { slot = i; entry = record { rank = rank; assertion = a } } ∷ [])

-- so in each state that may be under the run, and for each library that it showed with what the run kept aside before
abbrev pub FillsAny : {O : Type 0} → ℕ → ℕ → Assertion → List StoredStep → Sight O → Sight O → Type 0
FillsAny i rank a kept old new =
    (st : State) (lib : List Ranked) → Matches new st → (shown : Views old st lib) → MayFill old.setting.slots (after old st) lib i a kept
    → Fills old.setting.slots (after new st) lib shown.shows.held i rank a

-- the words of its bodies: of its label, of its statement, and of its steps as they are stored
abbrev pub bodies_length : Assertion → List StoredStep → ℕ
bodies_length a kept = length (label_body a.label) + length (statement_body (statement_of a)) + length (proof_body kept)

-- an assertion that has a label, with steps that cite slots, at least one where it is a theorem, and none where it is an axiom
pub record IsFillable (slots : ℕ) (a : Assertion) (kept : List StoredStep) : Type 0 where
  pub labelled : a.label ≢ []
  pub some : a.kind ≡ Theorem → kept ≢ []
  pub none : a.kind ≡ Axiom → kept ≡ []
  pub within : (i : ℕ) → Has (Slot i) kept → i < slots

-- the proof cell of a theorem's slot names the body of its steps; that of an axiom's is as it was
abbrev pub LaysProof : State → State → ℕ → Kind → List StoredStep → Type 0
LaysProof st next i Axiom kept = next.value (proof_cell i) ≡ st.value (proof_cell i)
LaysProof st next i Theorem kept = HasBody next (proof_cell i) (proof_body kept)

-- the slot's five cells have the label, the statement, the steps and the rank of an assertion, and no citer, and nothing else changes
pub record LaysDown (st next : State) (i rank : ℕ) (a : Assertion) (kept : List StoredStep) : Type 0 where
  pub name : HasBody next (name_cell i) (label_body a.label)
  pub statement : HasBody next (statement_cell i) (statement_body (statement_of a))
  pub proof : LaysProof st next i a.kind kept
  pub ranked : next.value (rank_cell i) ≡ rank
  pub citers : next.value (citers_cell i) ≡ 0
  pub others : (c : ℕ) → (c < 5 * i) ⊎ (5 * i + 5 ≤ c) → next.value c ≡ st.value c

-- so in each state that may be under the run
abbrev pub LaysAnyDown : {O : Type 0} → ℕ → ℕ → Assertion → List StoredStep → Sight O → Sight O → Type 0
LaysAnyDown i rank a kept old new = Turns old new (λ st next. LaysDown st next i rank a kept)

-- the slot's five cells hold 0, and nothing else changes
pub record Empties (i : ℕ) (st next : State) : Type 0 where
  pub zeros : (c : ℕ) → 5 * i ≤ c → c < 5 * i + 5 → next.value c ≡ 0
  pub others : (c : ℕ) → (c < 5 * i) ⊎ (5 * i + 5 ≤ c) → next.value c ≡ st.value c

-- where an assertion is put into a slot: one of its five cells, one of its chain, or the citers cell of a slot that its steps cite
abbrev pub IsOfFilling : ℕ → ℕ → List ℕ → List StoredStep → ℕ → Type 0
IsOfFilling slots i label kept c = IsOfSlot i c ⊎ (IsOfFront slots i label c ⊎ IsCitersOfCited kept c)
