-- What the calls that read a library's cells answer, for every state that may be under the run.
use Rattle.std.specs.Prelude.{◌≡◌, ◌≢◌, ◌<◌, ◌≤◌, ℕ, ◌+◌, ◌%◌, ◌↔◌, IsTrue, List, [], ◌∷◌, Option, Some, None, Bool, true, false, length, get_or, All, Contains}
use Rattle.std.specs.List.{list_any}
use Rattle.mmsyntax.specs.declared.statement.Step.{Step}
use Rattle.mmsyntax.specs.declared.statement.Step.TheVariants.{Float, Hyp, Cite}
use Rattle.library.specs.declared.library.Ranked.{Ranked}
use Rattle.library.specs.Library.{label_of}
use Rattle.library.specs.Edits.{has, found, clashes, without, is_of_unknown}
use Rattle.bodystore.specs.declared.stored.StoredStep.{StoredStep}
use Rattle.bodystore.specs.declared.stored.StoredStep.TheVariants.{Slot}
use Rattle.ranges.specs.Ranges.{Has}
use Rattle.cells.specs.State.{State, HasBody}
use Rattle.cells.specs.Slots.{name_cell}
use Rattle.cells.specs.Shows.{IsNamed, Holds, IsEmpty, IsStoredAs, AreStoredAs}
use Rattle.cells.specs.Sight.{Sight, Matches, Views, after, ForEachState}
use Rattle.cells.specs.declared.labels.Availability.{Availability}
use Rattle.cells.specs.declared.labels.Availability.TheVariants.{Free, Taken, Clashing}

-- what is so of every state that may be under the run and of every library that verifies and that it shows with what the run keeps aside
abbrev pub ForEach : {O : Type 0} → Sight O → (State → List Ranked → Type 0) → Type 0
ForEach s told = (st : State) (lib : List Ranked) → Views s st lib → told (after s st) lib

-- and of every assertion of the library that the slot holds there
abbrev pub ForEachHeld : {O : Type 0} → Sight O → ℕ → (State → List Ranked → Ranked → Type 0) → Type 0
ForEachHeld s i told = ForEach s (λ st lib. (e : Ranked) → Contains lib e → Holds s.setting.slots st lib i e → told st lib e)

-- a label of bytes that the slot has in some state that may be the one under the run is this one
abbrev pub IsNameAt : {O : Type 0} → Sight O → ℕ → List ℕ → Type 0
IsNameAt s i made =
    (st : State) (label : List ℕ) → Matches s st → All (λ byte. byte < 256) label → IsNamed s.setting.slots (after s st) i label
    → made ≡ label

-- whether the slot has the label
abbrev pub TellsLabel : {O : Type 0} → Sight O → ℕ → List ℕ → Bool → Type 0
TellsLabel s i label b = ForEachState s (λ st. IsTrue b ↔ IsNamed s.setting.slots st i label)

-- the slot holds the assertion of the library that has the label
pub record IsFoundAt (slots : ℕ) (st : State) (lib : List Ranked) (label : List ℕ) (i : ℕ) : Type 0 where
  pub entry : Ranked
  pub found : found lib label ≡ Some entry
  pub holds : Holds slots st lib i entry

-- the slot with the assertion that has the label, or none where no assertion has it
abbrev pub Finds : {O : Type 0} → Sight O → List ℕ → Option ℕ → Type 0
Finds s label None = ForEach s (λ st lib. found lib label ≡ None)
Finds s label (Some i) = (i < s.setting.slots) × ForEach s (λ st lib. IsFoundAt s.setting.slots st lib label i)

-- how the label stands to those of the library, that of one with the label `own` left out of those with which it may clash
abbrev pub TellsAvailability : {O : Type 0} → Sight O → List ℕ → List ℕ → Availability → Type 0
TellsAvailability s own label Free = ForEach s (λ st lib. (has lib label ≡ false) × (clashes (without own lib) label ≡ false))
TellsAvailability s own label Taken = ForEach s (λ st lib. has lib label ≡ true)
TellsAvailability s own label Clashing = ForEach s (λ st lib. (has lib label ≡ false) × (clashes (without own lib) label ≡ true))

-- whether the slot holds an assertion of the library: if not, it is empty
abbrev pub IfFull : {O : Type 0} → Sight O → ℕ → Bool → Type 0
IfFull s i true = ForEach s (λ st lib. (e : Ranked) × Holds s.setting.slots st lib i e × Contains lib e)
IfFull s i false = ForEach s (λ st lib. IsEmpty s.setting.slots st i)

-- the label of the assertion that the slot holds; none where it is empty
abbrev pub TellsLabelOf : {O : Type 0} → Sight O → ℕ → Option (List ℕ) → Type 0
TellsLabelOf s i None = IfFull s i false
TellsLabelOf s i (Some label) = IfFull s i true × ForEachHeld s i (λ st lib e. label ≡ label_of e)

-- the first empty slot from a slot on, going round
pub record IsFirstEmpty {O : Type 0} (s : Sight O) (from i : ℕ) : Type 0 where
  pub within : i < s.setting.slots
  pub steps : ℕ
  pub at : i ≡ (from + steps) % s.setting.slots
  pub empty : ForEach s (λ st lib. IsEmpty s.setting.slots st i)
  pub full : (k : ℕ) → k < steps → ForEach s (λ st lib. st.value (name_cell ((from + k) % s.setting.slots)) ≢ 0)

-- or none where the library has as many assertions as slots
abbrev pub FindsFree : {O : Type 0} → Sight O → ℕ → Option ℕ → Type 0
FindsFree s from None = ForEach s (λ st lib. s.setting.slots ≤ length lib)
FindsFree s from (Some i) = IsFirstEmpty s from i

-- the words of the body that the cell names, none where it holds 0
pub record AreWordsOf (st : State) (cell : ℕ) (made : List ℕ) : Type 0 where
  pub body : (words : List ℕ) → HasBody st cell words → made ≡ words
  pub none : st.value cell ≡ 0 → length made ≡ 0

-- the first word of the body that the cell names
abbrev pub IsFirstWordOf : {O : Type 0} → Sight O → ℕ → ℕ → Type 0
IsFirstWordOf s cell first =
    (st : State) (w : ℕ) (more : List ℕ) → Matches s st → HasBody (after s st) cell (w ∷ more) → first ≡ w

-- the steps of the proof of the assertion in the slot, as they are stored
abbrev pub AreStepsAt : {O : Type 0} → Sight O → ℕ → List StoredStep → Type 0
AreStepsAt s i made = ForEachHeld s i (λ st lib e. AreStoredAs s.setting.slots st e.assertion.proof made)

-- the slots that the steps cite are slots
abbrev pub AreWithin : ℕ → List StoredStep → Type 0
AreWithin slots kept = (i : ℕ) → Has (Slot i) kept → i < slots

-- the step with a cited label as a slot that has it; none where it cites a label that no assertion has
abbrev pub StoresStep : {O : Type 0} → Sight O → Step → Option StoredStep → Type 0
StoresStep s step None = ForEach s (λ st lib. is_of_unknown lib step ≡ true)
StoresStep s step (Some kept) =
    AreWithin s.setting.slots (kept ∷ []) × ForEach s (λ st lib. IsStoredAs (IsNamed s.setting.slots st) step kept)

-- the steps with each cited label as a slot that has it; none where some step cites a label that no assertion has
abbrev pub Resolves : {O : Type 0} → Sight O → List Step → Option (List StoredStep) → Type 0
Resolves s steps None = ForEach s (λ st lib. list_any (is_of_unknown lib) steps ≡ true)
Resolves s steps (Some kept) =
    (length kept ≡ length steps) × AreWithin s.setting.slots kept × ForEach s (λ st lib. AreStoredAs s.setting.slots st steps kept)

-- a cited label is one of bytes
abbrev pub IsShortLabelled : Step → Type 0
IsShortLabelled (Float i) = Unit {0}
IsShortLabelled (Hyp k) = Unit {0}
IsShortLabelled (Cite label) = All (λ byte. byte < 256) label

-- the step that is stored as this one
abbrev pub IsStepOf : {O : Type 0} → ℕ → Sight O → StoredStep → Step → Type 0
IsStepOf slots s kept made =
    (st : State) (x : Step) → Matches s st → IsShortLabelled x → IsStoredAs (IsNamed slots (after s st)) x kept → made ≡ x

-- the first of the kept steps are these
abbrev pub AreStepsOf : {O : Type 0} → ℕ → Sight O → List StoredStep → List Step → Type 0
AreStepsOf slots s kept steps = (k : ℕ) (d : StoredStep) (e : Step) → k < length steps
    → IsStepOf slots s (get_or kept k d) (get_or steps k e)
