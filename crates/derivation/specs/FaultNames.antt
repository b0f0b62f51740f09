-- The number and the name of each kind of fault of a proof.
use Rattle.std.specs.Prelude.{ℕ, List, ◌++◌, codes}
use Rattle.std.specs.Fmt.{decimal}
use Rattle.mmtext.specs.FaultNames.{numbered_name}
use Rattle.derivation.specs.declared.fault.ProofFault.{ProofFault}
use Rattle.derivation.specs.declared.fault.ProofFaultKind.{ProofFaultKind}
use Rattle.derivation.specs.declared.fault.ProofFaultKind.TheVariants.{UnknownStep, StackShort, WrongType, HypothesisDiffers}
use Rattle.derivation.specs.declared.fault.ProofFaultKind.TheVariants.{NotDisjoint, NotOneLeft, StatementDiffers, TooLong, NoMemory}

-- numbers from 1
abbrev pub number_of : ProofFaultKind → ℕ
number_of UnknownStep = 1
number_of StackShort = 2
number_of WrongType = 3
number_of HypothesisDiffers = 4
number_of NotDisjoint = 5
number_of NotOneLeft = 6
number_of StatementDiffers = 7
number_of TooLong = 8
number_of NoMemory = 9

-- the names as messages print them
abbrev pub name_of : ProofFaultKind → List ℕ
name_of UnknownStep = codes "UnknownStep"
name_of StackShort = codes "StackShort"
name_of WrongType = codes "WrongType"
name_of HypothesisDiffers = codes "HypothesisDiffers"
name_of NotDisjoint = codes "NotDisjoint"
name_of NotOneLeft = codes "NotOneLeft"
name_of StatementDiffers = codes "StatementDiffers"
name_of TooLong = codes "TooLong"
name_of NoMemory = codes "NoMemory"

-- as in: 6 NotOneLeft
abbrev pub printed_kind : ProofFaultKind → List ℕ
printed_kind kind = numbered_name (number_of kind) (name_of kind)

-- the step, then the kind, as in: step 3: 6 NotOneLeft
abbrev pub printed_proof_fault : ProofFault → List ℕ
printed_proof_fault fault = codes "step " ++ decimal fault.step ++ codes ": " ++ printed_kind fault.kind
