-- When a state of the cells shows a library.
use Rattle.std.specs.Prelude.{◌≡◌, ◌<◌, ℕ, ◌+◌, List, [], ◌∷◌, ◌==◌, ◌⊎◌, map, filter, All, nat_eq, IsPermutation}
use Rattle.std.specs.List.{AllZip}
use Rattle.mmsyntax.specs.declared.statement.Kind.{Kind}
use Rattle.mmsyntax.specs.declared.statement.Kind.TheVariants.{Axiom, Theorem}
use Rattle.mmsyntax.specs.declared.statement.Step.{Step}
use Rattle.mmsyntax.specs.declared.statement.Step.TheVariants.{Float, Hyp, Cite}
use Rattle.mmsyntax.specs.Assertions.{Distinct}
use Rattle.library.specs.declared.library.Ranked.{Ranked}
use Rattle.library.specs.Library.{label_of}
use Rattle.library.specs.Edits.{citers}
use Rattle.ranges.specs.Ranges.{Has}
use Rattle.bodystore.specs.declared.stored.StoredStep.{StoredStep}
use Rattle.bodystore.specs.declared.stored.StoredStep.TheVariants as stored
use Rattle.bodystore.specs.Bodies.{label_body, statement_of, statement_body, proof_body}
use Rattle.cells.specs.State.{State, HasBody}
use Rattle.cells.specs.Slots.{name_cell, statement_cell, proof_cell, rank_cell, citers_cell, bucket_cell, next_cell, bucket}

-- an assertion with its slot
pub record Held : Type 0 where
  pub slot : ℕ
  pub entry : Ranked

abbrev pub slots_of : List Held → List ℕ
slots_of held = map (λ p. p.slot) held

-- the assertions that are held
abbrev pub entries_of : List Held → List Ranked
entries_of held = map (λ p. p.entry) held

-- those whose label is of the bucket
abbrev pub of_bucket : ℕ → ℕ → List Held → List Held
of_bucket slots b held = filter (λ p. bucket slots (label_of p.entry) == b) held

-- a step of a proof as the store keeps it: a cited label as a slot that has the label
abbrev pub IsStoredAs : (ℕ → List ℕ → Type 0) → Step → StoredStep → Type 0
IsStoredAs named (Float i) (stored.Float j) = i ≡ j
IsStoredAs named (Hyp k) (stored.Hyp j) = k ≡ j
IsStoredAs named (Cite label) (stored.Slot s) = named s label
IsStoredAs named _ _ = ⊥

module _ (slots : ℕ) (st : State) where
  -- the slot's name cell names the body of the label
  pub record IsNamed (i : ℕ) (label : List ℕ) : Type 0 where
    pub within : i < slots
    pub body : HasBody st (name_cell i) (label_body label)

  -- each step as it is stored
  abbrev pub AreStoredAs : List Step → List StoredStep → Type 0
  AreStoredAs steps kept = AllZip (IsStoredAs IsNamed) steps kept

  -- an axiom has no proof body; that of a theorem has a word for each step
  abbrev pub HoldsProof : ℕ → Kind → List Step → Type 0
  HoldsProof i Axiom steps = (st.value (proof_cell i) ≡ 0) × (steps ≡ [])
  HoldsProof i Theorem steps = (kept : List StoredStep) × HasBody st (proof_cell i) (proof_body kept) × AreStoredAs steps kept

  -- the slot's five cells hold an assertion of the library: its label, statement and proof bodies, its rank and its number of citers
  pub record Holds (lib : List Ranked) (i : ℕ) (e : Ranked) : Type 0 where
    pub name : IsNamed i (label_of e)
    pub statement : HasBody st (statement_cell i) (statement_body (statement_of e.assertion))
    pub proof : HoldsProof i e.assertion.kind e.assertion.proof
    pub rank : st.value (rank_cell i) ≡ e.rank
    pub citers : st.value (citers_cell i) ≡ citers lib (label_of e)

  -- an empty slot holds 0, and so does its next cell
  pub record IsEmpty (i : ℕ) : Type 0 where
    pub name : st.value (name_cell i) ≡ 0
    pub statement : st.value (statement_cell i) ≡ 0
    pub proof : st.value (proof_cell i) ≡ 0
    pub rank : st.value (rank_cell i) ≡ 0
    pub citers : st.value (citers_cell i) ≡ 0
    pub next : st.value (next_cell slots i) ≡ 0

  -- these are the slots of the chain that goes on with this word: its first slot plus 1, and so on by the next cells; or 0 at the end
  abbrev pub IsChain : List ℕ → ℕ → Type 0
  IsChain [] word = word ≡ 0
  IsChain (i ∷ is) word = (i < slots) × (word ≡ i + 1) × IsChain is (st.value (next_cell slots i))

  -- the chain of a bucket has the slots of the labels of this bucket, each once, in whatever order, and nothing else
  pub record IsChained (held : List Held) (b : ℕ) : Type 0 where
    pub chain : List ℕ
    pub starts : IsChain chain (st.value (bucket_cell slots b))
    pub has : IsPermutation (slots_of (of_bucket slots b held)) chain

  -- so each full slot stands exactly once in the chain of its label's bucket, and nothing else stands in a chain
  abbrev pub AreChained : List Held → Type 0
  AreChained held = (b : ℕ) → b < slots → IsChained held b

  -- the state shows a library: each of its assertions is held by one slot, the others are empty, and the full ones are chained
  pub record Shows (lib : List Ranked) : Type 0 where
    -- the assertions, each with its slot
    pub held : List Held
    pub library : entries_of held ≡ lib
    pub holds : All (λ p. Holds lib p.slot p.entry) held
    pub apart : Distinct nat_eq (slots_of held)
    pub others : (i : ℕ) → i < slots → Has i (slots_of held) ⊎ IsEmpty i
    pub chained : AreChained held

-- the state shows the library, and these hold its assertions, in its order
abbrev pub ShowsHeld : ℕ → State → List Ranked → List Held → Type 0
ShowsHeld slots st lib held = (shown : Shows slots st lib) × (shown.held ≡ held)
