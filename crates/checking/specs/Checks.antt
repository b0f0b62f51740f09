-- What texts say; what a check and a replay print, and which fault they have.
use Rattle.std.specs.Prelude.{◌≡◌, ◌≢◌, ◌+◌, ◌⊎◌, ℕ, zero, suc, List, [], ◌∷◌, ◌++◌, Some, codes, length, map, slice_get}
use Rattle.std.specs.Prelude.{Result, Ok, Err}
use Rattle.std.specs.Fmt.{decimal}
use Rattle.mmsyntax.specs.declared.statement.Assertion.{Assertion}
use Rattle.mmtext.specs.declared.fault.TextFault.{TextFault}
use Rattle.mmtext.specs.declared.fault.FaultKind.TheVariants.{NoMemory as OutOfMemory}
use Rattle.mmsyntax.specs.Tables.{Tables, Contents}
use Rattle.mmsyntax.specs.Grammar.{Spells}
use Rattle.mmsyntax.specs.Faults.{FaultyDatabase}
use Rattle.derivation.specs.declared.fault.ProofFaultKind.TheVariants.{NoMemory as NoMemoryOfProof}
use Rattle.derivation.specs.Databases.{AllCheck, IsFirstFault as IsFirstFaultOfProofs}
use Rattle.library.specs.declared.command.Command.{Command}
use Rattle.library.specs.Library.{Listed, opening}
use Rattle.scripts.specs.Scripts.{SpellsScript}
use Rattle.scripts.specs.ScriptFaults.{FaultyScript}
use Rattle.library.specs.declared.history.Entry.{Entry}
use Rattle.library.specs.Histories.{seen_entry, IsAfterHistory}
use Rattle.history.specs.Replays.{IsFirstDiffering}
use Rattle.historytext.specs.Grammar.{SpellsHistory}
use Rattle.historytext.specs.Places.{FaultyHistory}
use Rattle.export.specs.Exported.{IsAccepted, exported_text}
use Rattle.checking.specs.declared.fault.Fault.{Fault}
use Rattle.checking.specs.declared.fault.Fault.TheVariants.{Text, Proof, Differs, NoMemory}
use Rattle.checking.specs.Outcomes.{program_setting}

abbrev pub Bytes : Type 0
Bytes = List ℕ

-- the transactions of a script
abbrev pub Orders : Type 0
Orders = List (List Command)

-- the line `library`, and the exported text of a library
abbrev pub library_lines : Listed → Bytes
library_lines library = codes "library" ++ 10 ∷ exported_text library

-- `replayed`, a number of entries, and a library
abbrev pub replayed_lines : ℕ → Listed → Bytes
replayed_lines count library = codes "replayed " ++ (decimal count ++ 10 ∷ library_lines library)

-- the library after a history, in export order: the history is legal over the library of the database
abbrev pub IsAfter : Contents → List Entry → Listed → Type 0
IsAfter contents history library = IsAfterHistory (program_setting contents) (opening contents) (map seen_entry history) library

-- `replayed`, the number of entries, and the library after them, whose text is accepted: the history is legal
pub record PrintsReplay (contents : Contents) (history : List Entry) (out : Bytes) : Type 0 where
  pub library : Listed
  pub after : IsAfter contents history library
  pub prints : out ≡ replayed_lines (length history) library
  pub accepted : IsAccepted library

-- the text of a database: it spells these contents, and has no fault
pub record IsDatabase (text : Bytes) (contents : Contents) : Type 0 where
  pub spelled : Spells text contents
  pub faultless : (f : TextFault) → FaultyDatabase text f → ⊥

-- the text of a script over a prelude: it spells these transactions, and has no fault
pub record IsScript (p : Tables) (text : Bytes) (script : Orders) : Type 0 where
  pub spelled : SpellsScript p text script
  pub faultless : (f : TextFault) → FaultyScript p text f → ⊥

-- each text is that of the script at its place
abbrev pub AreScripts : Tables → List Bytes → List Orders → Type 0
AreScripts p [] [] = Unit {0}
AreScripts p [] (x ∷ xs) = ⊥
AreScripts p (t ∷ ts) [] = ⊥
AreScripts p (t ∷ ts) (x ∷ xs) = IsScript p t x × AreScripts p ts xs

-- the text of a history over a prelude: it spells these entries, and has no fault
pub record IsHistory (p : Tables) (text : Bytes) (history : List Entry) : Type 0 where
  pub spelled : SpellsHistory p text history
  pub faultless : (f : TextFault) → FaultyHistory p text f → ⊥

-- the text of a database of which each proof checks
pub record IsChecked (text : Bytes) (contents : Contents) : Type 0 where
  pub read : IsDatabase text contents
  pub checks : AllCheck contents

-- `ok`, and the number of assertions
abbrev pub ok_line : Contents → Bytes
ok_line contents = codes "ok " ++ (decimal (length contents.assertions) ++ 10 ∷ [])

-- the database is read as it is spelled, its proofs check, and what is printed is the number of its assertions
pub record IsCheck (db : Bytes) (out : Bytes) : Type 0 where
  pub contents : Contents
  pub checked : IsChecked db contents
  pub prints : out ≡ ok_line contents

-- the database is read as it is spelled, and its proofs check; the history is read as it is spelled; and what is printed is that of its
-- replay
pub record IsReplay (db text : Bytes) (out : Bytes) : Type 0 where
  pub contents : Contents
  pub checked : IsChecked db contents
  pub history : List Entry
  pub read : IsHistory contents.prelude text history
  pub printed : PrintsReplay contents history out

-- the database and the history are read as they are spelled, the proofs of the database check, and the history leads to the library
pub record LeadsTo (db text : Bytes) (history : List Entry) (library : Listed) : Type 0 where
  pub contents : Contents
  pub checked : IsChecked db contents
  pub read : IsHistory contents.prelude text history
  pub after : IsAfter contents history library

-- the fault of the script at a place, where each script before it is read
abbrev pub IsFirstFaultyScript : Tables → List Bytes → ℕ → TextFault → Type 0
IsFirstFaultyScript p [] k f = ⊥
IsFirstFaultyScript p (t ∷ ts) zero f = FaultyScript p t f
IsFirstFaultyScript p (t ∷ ts) (suc k) f = ((x : Orders) × IsScript p t x) × IsFirstFaultyScript p ts k f

-- the label of the assertion at a place
abbrev pub IsLabelAt : Contents → ℕ → List ℕ → Type 0
IsLabelAt contents place label = (a : Assertion) × (slice_get contents.assertions place ≡ Some a) × (label ≡ a.label)

-- the first of the proofs that has a fault, with the label of its theorem
abbrev pub IsProofFault : Contents → Fault → Type 0
IsProofFault contents (Proof label fault) =
    (place : ℕ) × IsFirstFaultOfProofs contents (place + 1) fault × IsLabelAt contents place label × (fault.kind ≢ NoMemoryOfProof)
IsProofFault contents _ = ⊥

-- the fault of a text that has to be a database of which each proof checks
abbrev pub IsDatabaseFault : Bytes → Fault → Type 0
IsDatabaseFault text (Text zero f) = FaultyDatabase text f × (f.kind ≢ OutOfMemory)
IsDatabaseFault text (Proof label fault) = (contents : Contents) × IsDatabase text contents × IsProofFault contents (Proof label fault)
IsDatabaseFault text _ = ⊥

-- an entry is the first of the history that differs
abbrev pub IsDifference : Contents → List Entry → Fault → Type 0
IsDifference contents history (Differs n) = IsFirstDiffering (program_setting contents) (opening contents) (map seen_entry history) n
IsDifference contents history _ = ⊥

-- the fault of a replay: that of its database, or of the history's text, or the first entry that differs
abbrev pub IsReplayFault : Bytes → Bytes → Fault → Type 0
IsReplayFault db text (Text (suc zero) f) =
    ((contents : Contents) × IsChecked db contents × FaultyHistory contents.prelude text f) × (f.kind ≢ OutOfMemory)
IsReplayFault db text (Differs n) =
    (contents : Contents) × (history : List Entry) × IsChecked db contents × IsHistory contents.prelude text history
    × IsDifference contents history (Differs n)
IsReplayFault db text f = IsDatabaseFault db f

-- the answer where there is a fault: that fault, unless memory ran out
abbrev pub IsOrLacksMemory : Fault → Fault → Type 0
IsOrLacksMemory f g = (g ≡ f) ⊎ (g ≡ NoMemory)

abbrev pub RefusesWith : {A : Type 0} → Fault → Result A Fault → Type 0
RefusesWith f (Ok done) = ⊥
RefusesWith f (Err g) = IsOrLacksMemory f g
