-- The line of a fault, and the text that it is a fault of.
use Rattle.std.specs.Prelude.{ℕ, List, [], ◌++◌, Option, Some, None, codes, slice_index_or, if◌then◌else◌}
use Rattle.std.specs.Str.{is_utf8}
use Rattle.std.specs.Fmt.{decimal}
use Rattle.mmtext.specs.FaultNames.{printed_fault as printed_text_fault}
use Rattle.derivation.specs.FaultNames.{printed_proof_fault}
use Rattle.checking.specs.declared.fault.Fault.{Fault}
use Rattle.checking.specs.declared.fault.Fault.TheVariants.{Text, Proof, Differs, StoreFull, Missing, Held, NoThread, NoMemory}

-- a label as it is printed: itself, where it is text, as each label of a database is
abbrev pub shown_label : List ℕ → List ℕ
shown_label label = if is_utf8 label then label else codes "?"

-- `text K Name at byte B`, `proof of LABEL: step STEP: K Name`, `entry N differs`, `store full`, `missing N`, `held C`, `no thread` or
-- `no memory`
abbrev pub fault_text : Fault → List ℕ
fault_text (Text file fault) = codes "text " ++ printed_text_fault fault
fault_text (Proof label fault) = codes "proof of " ++ (shown_label label ++ (codes ": " ++ printed_proof_fault fault))
fault_text (Differs n) = codes "entry " ++ (decimal n ++ codes " differs")
fault_text StoreFull = codes "store full"
fault_text (Missing n) = codes "missing " ++ decimal n
fault_text (Held c) = codes "held " ++ decimal c
fault_text NoThread = codes "no thread"
fault_text NoMemory = codes "no memory"

-- the text that has the fault, from 0: the database, then each script, or the history. The others are of none
abbrev pub file_of : Fault → Option ℕ
file_of (Text file fault) = Some file
file_of (Proof label fault) = Some 0
file_of (Differs n) = Some 1
file_of _ = None

-- behind the path of that text, if there is one
abbrev pub behind_path : List (List ℕ) → Option ℕ → List ℕ → List ℕ
behind_path paths (Some file) said = slice_index_or paths file [] ++ (codes ": " ++ said)
behind_path paths None said = said

-- the line of a fault on a command line with these paths
abbrev pub line_of : List (List ℕ) → Fault → List ℕ
line_of paths fault = behind_path paths (file_of fault) (fault_text fault)
