-- Of the code's inside, apart from the rules: what the tests of a proof tell, for every state that may be under the run.
use Rattle.std.specs.Prelude.{◌≡◌, ◌≢◌, ℕ, List, [], ◌∷◌, ◌++◌, Option, Some, None, Bool, Err, Vec}
use Rattle.std.specs.Option.{option_map}
use Rattle.std.specs.List.{list_any}
use Rattle.std.specs.Ordering.{nat_cmp}
use Rattle.std.specs.Cmp.Lexicographic.{slice_cmp}
use Rattle.std.specs.BTreeMap.{BTreeMap, get_by}
use Rattle.std.specs.declared.alloc.Global.{Global}
use Rattle.mmsyntax.specs.declared.statement.Assertion.{Assertion}
use Rattle.mmsyntax.specs.declared.statement.Frame.{Frame}
use Rattle.mmsyntax.specs.declared.statement.Step.{Step}
use Rattle.mmsyntax.specs.declared.statement.Step.TheVariants.{Cite}
use Rattle.mmsyntax.specs.Tables.{Tables}
use Rattle.mmframes.specs.Frames.{frame}
use Rattle.derivation.specs.declared.fault.ProofFault.{ProofFault}
use Rattle.derivation.specs.Derivation.{Citable}
use Rattle.derivation.specs.Outcomes.{outcome}
use Rattle.library.specs.declared.library.Ranked.{Ranked}
use Rattle.library.specs.declared.reason.Reason.{Reason}
use Rattle.library.specs.declared.reason.Reason.TheVariants.{ProofFails}
use Rattle.library.specs.Edits.{Tests, Edited, found, cites_not_below, fault_of, proof_tests, tested}
use Rattle.ranges.specs.Ranges.{Has}
use Rattle.bodystore.specs.declared.stored.StoredStep.{StoredStep}
use Rattle.cells.specs.Shows.{AreStoredAs}
use Rattle.cells.specs.Sight.{Sight, IsCaused}
use Rattle.cells.specs.Lookups.{ForEach, ForEachHeld, AreWithin}
use Rattle.cells.specs.declared.ending.CommandError.{CommandError}
use Rattle.cells.specs.declared.ending.CommandError.TheVariants.{Halted, Refused}

-- what is so of every library and of all steps that are stored as these
abbrev pub ForEachStored : {O : Type 0} → Sight O → List StoredStep → (List Ranked → List Step → Type 0) → Type 0
ForEachStored s kept told = ForEach s (λ st lib. (steps : List Step) → AreStoredAs s.setting.slots st steps kept → told lib steps)

-- whether some step cites an assertion that isn't below the rank
abbrev pub TellsNotBelow : {O : Type 0} → Sight O → ℕ → List StoredStep → Bool → Type 0
TellsNotBelow s rank kept b = ForEachStored s kept (λ lib steps. b ≡ list_any (cites_not_below lib rank) steps)

-- the frame of each assertion that a step cites, by its label
abbrev pub AreFrames : Tables → List Ranked → List Step → Citable → Type 0
AreFrames prelude lib steps frames =
    (label : List ℕ) → Has (Cite label) steps → frames label ≡ option_map (λ e. frame prelude e.assertion) (found lib label)

-- so where the steps are stored as these
abbrev pub TellsFrames : {O : Type 0} → Sight O → Tables → List Step → List StoredStep → Citable → Type 0
TellsFrames s prelude steps kept frames =
    ForEach s (λ st lib. AreStoredAs s.setting.slots st steps kept → AreFrames prelude lib steps frames)

-- the frame of the assertion in the slot is noted by the label, unless the label has one
pub record NotesFrame {O : Type 0} (s : Sight O) (prelude : Tables) (i : ℕ) (label : List ℕ) (old new : Citable) : Type 0 where
  pub kept : (f : Frame) → old label ≡ Some f → new label ≡ Some f
  pub noted : old label ≡ None → (f : Frame) × (new label ≡ Some f) × ForEachHeld s i (λ st lib e. f ≡ frame prelude e.assertion)
  pub others : (other : List ℕ) → other ≢ label → new other ≡ old other

-- the fault of a theorem's proof over the frames, if it has one; a proof without a fault has a step
pub record TellsFault (frames : Citable) (prelude : Tables) (a : Assertion) (fault : Option ProofFault) : Type 0 where
  pub outcome : option_map ProofFails fault ≡ fault_of (outcome frames prelude a)
  pub some : fault ≡ None → a.proof ≢ []

-- the proof of a theorem passes its tests, and its steps are stored as these, of which there is one
pub record Passes {O : Type 0} (s : Sight O) (rank : ℕ) (a : Assertion) (kept : List StoredStep) : Type 0 where
  pub some : kept ≢ []
  pub within : AreWithin s.setting.slots kept
  pub stored : ForEach s (λ st lib. AreStoredAs s.setting.slots st a.proof kept)
  pub passes : ForEach s
      (λ st lib. (more : Tests) (edited : Edited) → tested (proof_tests s.setting lib rank a ++ more) edited ≡ tested more edited)

-- or one of them refuses it
abbrev pub Fails : {O : Type 0} → Sight O → ℕ → Assertion → Reason → Type 0
Fails s rank a reason = ForEach s
    (λ st lib. (more : Tests) (edited : Edited) → tested (proof_tests s.setting lib rank a ++ more) edited ≡ Err reason)

-- why the test of a proof ends early: it was refused, or the run halts
abbrev pub TellsRefusal : {O : Type 0} → Sight O → ℕ → Assertion → CommandError → Type 0
TellsRefusal s rank a (Refused reason) = Fails s rank a reason
TellsRefusal s rank a (Halted halt) = IsCaused s halt

-- the frame that a map has for a label
abbrev pub frames_in : BTreeMap (Vec ℕ Global) Frame → Citable
frames_in by_label label = get_by (λ k. slice_cmp nat_cmp label k.items) by_label
