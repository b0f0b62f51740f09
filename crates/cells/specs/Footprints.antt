-- Which cells calls read: those of what they look for, in a state of the cells.
use Rattle.std.specs.Prelude.{◌≡◌, ◌≢◌, ◌<◌, ◌⊎◌, ℕ, ◌+◌, ◌%◌, List, [], ◌∷◌}
use Rattle.mmsyntax.specs.Dotted.{trunk}
use Rattle.mmsyntax.specs.declared.statement.Step.{Step}
use Rattle.mmsyntax.specs.declared.statement.Step.TheVariants.{Cite}
use Rattle.ranges.specs.Ranges.{Has}
use Rattle.cells.specs.State.{State}
use Rattle.bodystore.specs.declared.stored.StoredStep.{StoredStep}
use Rattle.bodystore.specs.declared.stored.StoredStep.TheVariants.{Slot}
use Rattle.cells.specs.Slots.{name_cell, statement_cell, proof_cell, bucket_cell, next_cell, hash, bucket}
use Rattle.cells.specs.Shows.{IsNamed}
use Rattle.cells.specs.Sight.{Sight, Matches, ReadsWithin, after}

-- no cell was asked for but those that were before, and those of which this is so in each state that may be under the run, with what the
-- run kept aside before
pub record ReadsWhere {O : Type 0} (such : State → ℕ → Type 0) (old new : Sight O) : Type 0 where
  pub each : (st : State) → Matches new st → ReadsWithin (such (after old st)) old new

module _ (slots : ℕ) where
  -- the slot stands in the chain of the bucket behind these, the last of them first
  abbrev pub StandsBehind : State → ℕ → List ℕ → ℕ → Type 0
  StandsBehind st b [] i = st.value (bucket_cell slots b) ≡ i + 1
  StandsBehind st b (j ∷ before) i = (st.value (next_cell slots j) ≡ i + 1) × StandsBehind st b before j

  -- the slot stands in the chain of the bucket
  pub record IsMember (st : State) (b i : ℕ) : Type 0 where
    pub within : i < slots
    pub before : List ℕ
    pub behind : StandsBehind st b before i

  -- along the chain of a bucket: the cell of the bucket, and the name and next cells of the slots in its chain
  abbrev pub IsAlong : ℕ → State → ℕ → Type 0
  IsAlong b st c = (c ≡ bucket_cell slots b) ⊎ ((i : ℕ) × IsMember st b i × ((c ≡ name_cell i) ⊎ (c ≡ next_cell slots i)))

  -- a look for a label: along the chain of its bucket
  abbrev pub IsOfLook : List ℕ → State → ℕ → Type 0
  IsOfLook label st c = IsAlong (bucket slots label) st c

  -- a look for labels that clash with one: where it is L.k, a look for L, unless that is `own`; and along the chain in which the labels
  -- lie that are L.k for this label L
  abbrev pub IsOfTrunk : List ℕ → List ℕ → State → ℕ → Type 0
  IsOfTrunk own label st c = (trunk label ≢ label) × (trunk label ≢ own) × IsOfLook (trunk label) st c

  abbrev pub IsOfClash : List ℕ → List ℕ → State → ℕ → Type 0
  IsOfClash own label st c = IsOfTrunk own label st c ⊎ IsAlong (hash slots label) st c

  -- a look for an empty slot from a slot on, going round: the name cells up to the first that holds 0
  abbrev pub IsOfRound : ℕ → State → ℕ → Type 0
  IsOfRound from st c =
      (k : ℕ) × (c ≡ name_cell ((from + k) % slots)) × ((j : ℕ) → j < k → st.value (name_cell ((from + j) % slots)) ≢ 0)

  -- a look for each label that the steps cite
  abbrev pub IsOfResolving : List Step → State → ℕ → Type 0
  IsOfResolving steps st c = (label : List ℕ) × Has (Cite label) steps × IsOfLook label st c

  -- the step's look: for the label that it cites
  abbrev pub IsOfStep : Step → State → ℕ → Type 0
  IsOfStep step st c = (label : List ℕ) × (step ≡ Cite label) × IsOfLook label st c

  -- where a slot goes out of the chain of a label's bucket: its own next cell, the cell of the bucket, and the next cells of the slots in
  -- the chain
  abbrev pub IsOnChain : ℕ → State → ℕ → Type 0
  IsOnChain b st c = (c ≡ bucket_cell slots b) ⊎ ((i : ℕ) × IsMember st b i × (c ≡ next_cell slots i))

  abbrev pub IsOfTakingOut : ℕ → List ℕ → State → ℕ → Type 0
  IsOfTakingOut i label st c = (c ≡ next_cell slots i) ⊎ IsOnChain (bucket slots label) st c

  -- of a proof with these steps in a slot: its proof cell, and the name cells of the slots that have the labels which it cites
  abbrev pub IsOfProof : ℕ → List Step → State → ℕ → Type 0
  IsOfProof i steps st c =
      (c ≡ proof_cell i) ⊎ ((label : List ℕ) × (j : ℕ) × Has (Cite label) steps × IsNamed slots st j label × (c ≡ name_cell j))

  -- of an assertion with these steps in a slot whose label is known: besides, its statement cell
  abbrev pub IsOfAssertion : ℕ → List Step → State → ℕ → Type 0
  IsOfAssertion i steps st c = (c ≡ statement_cell i) ⊎ IsOfProof i steps st c

-- the name cell of a slot that the step cites
abbrev pub IsNameCited : StoredStep → ℕ → Type 0
IsNameCited step c = (j : ℕ) × (step ≡ Slot j) × (c ≡ name_cell j)
