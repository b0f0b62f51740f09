-- Which cells a command reads: those that it looks at, and no others.
use Rattle.std.specs.Prelude.{◌≡◌, ◌≢◌, ◌<◌, ◌≤◌, ◌⊎◌, ℕ, List, true}
use Rattle.mmsyntax.specs.declared.statement.Step.{Step}
use Rattle.mmsyntax.specs.declared.statement.Step.TheVariants.{Cite}
use Rattle.library.specs.declared.library.Ranked.{Ranked}
use Rattle.library.specs.declared.command.Command.{Command}
use Rattle.library.specs.declared.command.Command.TheVariants.{Add, Reprove, Replace, Rename, Move, Delete, Show}
use Rattle.library.specs.declared.command.Command.TheVariants as command
use Rattle.library.specs.Library.{label_of}
use Rattle.library.specs.Edits.{citers, cites, with_proof}
use Rattle.ranges.specs.Ranges.{Has}
use Rattle.bodystore.specs.declared.stored.StoredStep.{StoredStep}
use Rattle.bodystore.specs.declared.stored.StoredStep.TheVariants.{Slot}
use Rattle.cells.specs.State.{State}
use Rattle.cells.specs.Slots.{name_cell, statement_cell, proof_cell, rank_cell, citers_cell, next_cell, bucket}
use Rattle.cells.specs.Shows.{IsNamed, Holds, AreStoredAs}
use Rattle.cells.specs.Sight.{Sight, ReadsWithin, after}
use Rattle.cells.specs.Aside.{IsOfSlot}
use Rattle.cells.specs.Footprints.{IsOfLook, IsOfClash, IsOfResolving, IsOfRound}
use Rattle.cells.specs.Answers.{ForEachBefore}
use Rattle.groundwork.specs.Changes.{ForEachFound}
use Rattle.groundwork.specs.Touches.{OfFound, IsCitersCell, IsOfReproof, Touches}

module _ (slots : ℕ) where
  -- the rank cell of a slot, or the proof cell of one whose rank is above the one and not above the other. That of an empty slot is 0
  abbrev pub IsOfRanks : ℕ → ℕ → State → ℕ → Type 0
  IsOfRanks low high st c =
      (j : ℕ) × (j < slots)
      × ((c ≡ rank_cell j) ⊎ ((low < st.value (rank_cell j)) × (st.value (rank_cell j) ≤ high) × (c ≡ proof_cell j)))

  -- the tests of a new label, which may clash with the label `own`: a look for it, and one for labels that clash
  abbrev pub IsOfNewLabel : List ℕ → List ℕ → State → ℕ → Type 0
  IsOfNewLabel own label st c = IsOfLook slots label st c ⊎ IsOfClash slots own label st c

-- besides its name a line of a list needs of a slot: its statement, rank and citers cells
abbrev pub IsOfLine : ℕ → ℕ → Type 0
IsOfLine j c = (c ≡ statement_cell j) ⊎ ((c ≡ rank_cell j) ⊎ (c ≡ citers_cell j))

module _ (slots : ℕ) (st : State) (lib : List Ranked) where
  -- whether a citer stands in the way of an assertion that gets a rank: its rank and citers cells; and where the rank is above its own, and
  -- something cites it, the ranks of all slots, and the proofs of those whose rank is above its own and not above the new one
  abbrev pub IsOfRise : ℕ → Ranked → ℕ → ℕ → Type 0
  IsOfRise i e rank c =
      (c ≡ rank_cell i)
      ⊎ ((c ≡ citers_cell i) ⊎ ((e.rank < rank) × (citers lib (label_of e) ≢ 0) × IsOfRanks slots e.rank rank st c))

  -- this cell of a slot that has a label which the steps cite
  abbrev pub IsOfCited : (ℕ → ℕ) → List Step → ℕ → Type 0
  IsOfCited cell steps c = (label : List ℕ) × (j : ℕ) × Has (Cite label) steps × IsNamed slots st j label × (c ≡ cell j)

  -- its rank cell
  abbrev pub IsRankOfCited : List Step → ℕ → Type 0
  IsRankOfCited steps c = IsOfCited rank_cell steps c

  -- where an assertion gets another rank: its proof cell, the ranks of what its proof cites, and whether a citer stands in the way
  abbrev pub IsOfMoving : ℕ → Ranked → ℕ → ℕ → Type 0
  IsOfMoving i e rank c = (c ≡ proof_cell i) ⊎ (IsRankOfCited e.assertion.proof c ⊎ IsOfRise i e rank c)

  -- a cell that `move` may read, where the state shows the library: those of a look for the label, and those for the assertion that has it
  abbrev pub IsReadByMove : List ℕ → ℕ → ℕ → Type 0
  IsReadByMove label rank c = IsOfLook slots label st c ⊎ OfFound slots st lib label (λ i e. IsOfMoving i e rank c)

  -- the tests of a proof with these steps: a look for each label that they cite, and the statement and rank cells of the slots that have
  -- them
  abbrev pub IsOfProofTest : List Step → ℕ → Type 0
  IsOfProofTest steps c = IsOfResolving slots steps st c ⊎ (IsOfCited statement_cell steps c ⊎ IsOfCited rank_cell steps c)

  -- where an assertion is removed: its next cell and the five of its slot, and the citers cells of what its proof cites
  abbrev pub IsOfRemoval : ℕ → Ranked → ℕ → Type 0
  IsOfRemoval i e c = (c ≡ next_cell slots i) ⊎ (IsOfSlot i c ⊎ IsCitersCell slots st lib (λ f. cites (label_of f) e ≡ true) c)

  -- a list: all name cells; and of each slot that holds an assertion, what its line needs
  abbrev pub IsOfLines : ℕ → Type 0
  IsOfLines c = (j : ℕ) × (j < slots) × ((c ≡ name_cell j) ⊎ ((f : Ranked) × Holds slots st lib j f × IsOfLine j c))

  -- a cell that the command may read, where the state shows the library: along the chains of the labels that it looks for, and of what it
  -- finds
  abbrev pub IsReadBy : Command → ℕ → Type 0
  IsReadBy (Add rank a) c =
      IsOfNewLabel slots a.label a.label st c
      ⊎ (IsOfProofTest a.proof c ⊎ (IsOfRound slots (bucket slots a.label) st c ⊎ Touches slots st lib (Add rank a) c))
  IsReadBy (Reprove label steps) c =
      IsOfLook slots label st c
      ⊎ (OfFound slots st lib label (λ i e. (c ≡ statement_cell i) ⊎ (c ≡ rank_cell i))
      ⊎ (IsOfProofTest steps c ⊎ Touches slots st lib (Reprove label steps) c))
  IsReadBy (Replace label old new) c =
      (IsOfLook slots label st c ⊎ (IsOfLook slots old st c ⊎ IsOfLook slots new st c))
      ⊎ (OfFound slots st lib label (λ i e. c ≡ rank_cell i)
      ⊎ (OfFound slots st lib old (λ j f. c ≡ statement_cell j)
      ⊎ (OfFound slots st lib new (λ k f. (c ≡ statement_cell k) ⊎ (c ≡ rank_cell k)) ⊎ Touches slots st lib (Replace label old new) c)))
  IsReadBy (Rename from to) c =
      IsOfLook slots from st c
      ⊎ (IsOfNewLabel slots from to st c ⊎ OfFound slots st lib from (λ i e. (c ≡ name_cell i) ⊎ (c ≡ next_cell slots i)))
  IsReadBy (Move label rank) c = IsReadByMove label rank c
  IsReadBy (Delete label) c = IsOfLook slots label st c ⊎ OfFound slots st lib label (λ i e. IsOfRemoval i e c)
  IsReadBy (Show label) c =
      IsOfLook slots label st c ⊎ OfFound slots st lib label (λ i e. IsOfSlot i c ⊎ IsOfCited name_cell e.assertion.proof c)
  IsReadBy command.List c = IsOfLines c

-- a command reads no others, also where it ends early, in each state that may be under the run
abbrev pub ReadsFor : {O : Type 0} → Sight O → Sight O → Command → Type 0
ReadsFor old new c = ForEachBefore old new (λ st lib. ReadsWithin (IsReadBy old.setting.slots (after old st) lib c) old new)

-- ---- of the code's inside

-- so where the command found its label in the slot
abbrev pub ReadsForFound : {O : Type 0} → Sight O → Sight O → ℕ → List ℕ → Command → Type 0
ReadsForFound old new i label c =
    ForEachFound old new i label (λ st lib e. ReadsWithin (IsReadBy old.setting.slots (after old st) lib c) old new)

-- the rank cell of a slot that one of the kept steps cites
abbrev pub IsRankOfSteps : List StoredStep → ℕ → Type 0
IsRankOfSteps kept c = (j : ℕ) × Has (Slot j) kept × (c ≡ rank_cell j)

-- the statement cell of one
abbrev pub IsStatementOfSteps : List StoredStep → ℕ → Type 0
IsStatementOfSteps kept c = (j : ℕ) × Has (Slot j) kept × (c ≡ statement_cell j)

-- the tests of a proof with these steps
abbrev pub TestReads : {O : Type 0} → Sight O → Sight O → List Step → Type 0
TestReads old new steps =
    ForEachBefore old new (λ st lib. ReadsWithin (IsOfProofTest old.setting.slots (after old st) lib steps) old new)

-- where the theorem in the slot gets other steps, which are stored as these
abbrev pub ReprovesReading : {O : Type 0} → Sight O → Sight O → ℕ → List ℕ → List StoredStep → Type 0
ReprovesReading old new i label kept = ForEachFound old new i label (λ st lib e. (steps : List Step)
    → AreStoredAs old.setting.slots (after old st) steps kept
    → ReadsWithin (IsOfReproof old.setting.slots (after old st) lib i e (with_proof steps e)) old new)
