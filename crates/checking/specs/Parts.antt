-- Of the code's inside, apart from the rules: what its single functions answer, as parts of what a check or a replay prints and of its
-- faults.
use Rattle.std.specs.Prelude.{◌≡◌, ◌≢◌, ◌+◌, ℕ, zero, suc, List, Result, Ok, Err}
use Rattle.mmtext.specs.declared.fault.TextFault.{TextFault}
use Rattle.mmtext.specs.declared.fault.FaultKind.TheVariants.{NoMemory as OutOfMemory}
use Rattle.mmsyntax.specs.Tables.{Tables, Contents}
use Rattle.derivation.specs.declared.fault.ProofFault.{ProofFault}
use Rattle.derivation.specs.declared.fault.ProofFaultKind.TheVariants.{NoMemory as NoMemoryOfProof}
use Rattle.historytext.specs.Places.{FaultyHistory}
use Rattle.checking.specs.declared.fault.Fault.{Fault}
use Rattle.checking.specs.declared.fault.Fault.TheVariants.{Text, Proof, NoMemory}
use Rattle.checking.specs.Checks.{Bytes, IsFirstFaultyScript, IsLabelAt}

-- the scripts' part of a fault
abbrev pub IsScriptFault : Tables → List Bytes → Fault → Type 0
IsScriptFault p texts (Text (suc k) f) = IsFirstFaultyScript p texts k f × (f.kind ≢ OutOfMemory)
IsScriptFault p texts NoMemory = Unit {0}
IsScriptFault p texts _ = ⊥

-- the answer to the fault of a text: itself with its place, or want of memory
abbrev pub IsTextFaultOf : ℕ → TextFault → Fault → Type 0
IsTextFaultOf file f (Text n g) = (n ≡ file) × (g ≡ f) × (f.kind ≢ OutOfMemory)
IsTextFaultOf file f NoMemory = f.kind ≡ OutOfMemory
IsTextFaultOf file f _ = ⊥

-- the answer where the text at a place has a fault: the two, unless memory ran out
abbrev pub IsRefusedBy : ℕ → TextFault → Fault → Type 0
IsRefusedBy k f (Text n g) = (n ≡ k) × (g ≡ f)
IsRefusedBy k f NoMemory = Unit {0}
IsRefusedBy k f _ = ⊥

abbrev pub IsRefusedWith : {A : Type 0} → ℕ → TextFault → Result A Fault → Type 0
IsRefusedWith k f (Ok done) = ⊥
IsRefusedWith k f (Err fault) = IsRefusedBy k f fault

-- the answer to the fault of a proof: itself, with the label of the assertion with a number from 1, or want of memory
abbrev pub IsProofFaultOf : Contents → ℕ → ProofFault → Fault → Type 0
IsProofFaultOf contents number fault (Proof label f) =
    (place : ℕ) × (number ≡ place + 1) × IsLabelAt contents place label × (f ≡ fault) × (fault.kind ≢ NoMemoryOfProof)
IsProofFaultOf contents number fault NoMemory = Unit {0}
IsProofFaultOf contents number fault _ = ⊥

-- the answer is what there is, unless memory ran out
abbrev pub GivesOrLacksMemory : {A : Type 0} → Result A Fault → A → Type 0
GivesOrLacksMemory (Ok found) a = found ≡ a
GivesOrLacksMemory (Err f) a = f ≡ NoMemory

-- the history's part of a fault
abbrev pub IsHistoryFault : Tables → Bytes → Fault → Type 0
IsHistoryFault p text (Text (suc zero) f) = FaultyHistory p text f × (f.kind ≢ OutOfMemory)
IsHistoryFault p text NoMemory = Unit {0}
IsHistoryFault p text _ = ⊥
