-- The number and the name of each kind of fault, and how a fault is printed.
use Rattle.std.specs.Prelude.{ℕ, List, ◌∷◌, ◌++◌, codes}
use Rattle.std.specs.Fmt.{decimal}
use Rattle.mmtext.specs.declared.fault.FaultKind.{FaultKind}
use Rattle.mmtext.specs.declared.fault.FaultKind.TheVariants.{BadByte, BadToken, Unfinished, OutOfProfile, UnknownSymbol}
use Rattle.mmtext.specs.declared.fault.FaultKind.TheVariants.{RepeatedLabel, BadLabel, NoTypeFor, TooLong, NoMemory, LabelClashes}
use Rattle.mmtext.specs.declared.fault.FaultKind.TheVariants.{UnknownLabel, NotActive}
use Rattle.mmtext.specs.declared.fault.TextFault.{TextFault}

-- numbers from 1
abbrev pub number_of : FaultKind → ℕ
number_of BadByte = 1
number_of BadToken = 2
number_of Unfinished = 3
number_of OutOfProfile = 4
number_of UnknownSymbol = 5
number_of RepeatedLabel = 6
number_of BadLabel = 7
number_of NoTypeFor = 8
number_of TooLong = 9
number_of NoMemory = 10
number_of LabelClashes = 11
number_of UnknownLabel = 12
number_of NotActive = 13

-- the names as messages print them
abbrev pub name_of : FaultKind → List ℕ
name_of BadByte = codes "BadByte"
name_of BadToken = codes "BadToken"
name_of Unfinished = codes "Unfinished"
name_of OutOfProfile = codes "OutOfProfile"
name_of UnknownSymbol = codes "UnknownSymbol"
name_of RepeatedLabel = codes "RepeatedLabel"
name_of BadLabel = codes "BadLabel"
name_of NoTypeFor = codes "NoTypeFor"
name_of TooLong = codes "TooLong"
name_of NoMemory = codes "NoMemory"
name_of LabelClashes = codes "LabelClashes"
name_of UnknownLabel = codes "UnknownLabel"
name_of NotActive = codes "NotActive"

-- number, space, name
abbrev pub numbered_name : ℕ → List ℕ → List ℕ
numbered_name number name = decimal number ++ 32 ∷ name

-- as in: 2 BadToken
abbrev pub printed_kind : FaultKind → List ℕ
printed_kind kind = numbered_name (number_of kind) (name_of kind)

-- the kind, then the byte, as in: 2 BadToken at byte 6
abbrev pub printed_fault : TextFault → List ℕ
printed_fault fault = printed_kind fault.kind ++ (codes " at byte " ++ decimal fault.place)
