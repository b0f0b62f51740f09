-- The number and the name of each reason, and how a reason is printed.
use Rattle.std.specs.Prelude.{ℕ, List, [], ◌∷◌, ◌++◌, codes}
use Rattle.std.specs.Fmt.{decimal}
use Rattle.mmtext.specs.FaultNames.{numbered_name}
use Rattle.derivation.specs.FaultNames.{printed_proof_fault}
use Rattle.library.specs.declared.reason.Reason.{Reason}
use Rattle.library.specs.declared.reason.Reason.TheVariants.{UnknownLabel, LabelTaken, BadLabel, BadRank, CitesUnknown, CitedNotLower}
use Rattle.library.specs.declared.reason.Reason.TheVariants.{CiterNotHigher, StillCited, NotATheorem, AxiomNotAllowed, ProofFails}
use Rattle.library.specs.declared.reason.Reason.TheVariants.{LibraryFull, NotAlike, LabelClashes}

abbrev pub number_of : Reason → ℕ
number_of UnknownLabel = 1
number_of LabelTaken = 2
number_of BadLabel = 3
number_of BadRank = 4
number_of CitesUnknown = 5
number_of CitedNotLower = 6
number_of CiterNotHigher = 7
number_of (StillCited citers) = 8
number_of NotATheorem = 9
number_of AxiomNotAllowed = 10
number_of (ProofFails fault) = 11
number_of LibraryFull = 12
number_of NotAlike = 13
number_of LabelClashes = 14

abbrev pub name_of : Reason → List ℕ
name_of UnknownLabel = codes "UnknownLabel"
name_of LabelTaken = codes "LabelTaken"
name_of BadLabel = codes "BadLabel"
name_of BadRank = codes "BadRank"
name_of CitesUnknown = codes "CitesUnknown"
name_of CitedNotLower = codes "CitedNotLower"
name_of CiterNotHigher = codes "CiterNotHigher"
name_of (StillCited citers) = codes "StillCited"
name_of NotATheorem = codes "NotATheorem"
name_of AxiomNotAllowed = codes "AxiomNotAllowed"
name_of (ProofFails fault) = codes "ProofFails"
name_of LibraryFull = codes "LibraryFull"
name_of NotAlike = codes "NotAlike"
name_of LabelClashes = codes "LabelClashes"

-- what stands behind the name of a reason: the number of citers, or the step and the fault of the proof
abbrev pub said_besides : Reason → List ℕ
said_besides (StillCited citers) = 32 ∷ decimal citers
said_besides (ProofFails fault) = 32 ∷ printed_proof_fault fault
said_besides _ = []

-- as in: 2 LabelTaken; 8 StillCited 3; 11 ProofFails step 1: 2 StackShort
abbrev pub printed_reason : Reason → List ℕ
printed_reason reason = numbered_name (number_of reason) (name_of reason ++ said_besides reason)
