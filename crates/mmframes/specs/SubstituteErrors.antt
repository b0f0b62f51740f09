-- The number and the name of each error of a substitution.
use Rattle.std.specs.Prelude.{ℕ, List, codes}
use Rattle.mmtext.specs.FaultNames.{numbered_name}
use Rattle.mmframes.specs.declared.substitution.SubstituteError.{SubstituteError}
use Rattle.mmframes.specs.declared.substitution.SubstituteError.TheVariants.{TooLong, NoMemory}

-- numbers from 1
abbrev pub number_of : SubstituteError → ℕ
number_of TooLong = 1
number_of NoMemory = 2

-- the names as messages print them
abbrev pub name_of : SubstituteError → List ℕ
name_of TooLong = codes "TooLong"
name_of NoMemory = codes "NoMemory"

-- as in: 1 TooLong
abbrev pub printed_error : SubstituteError → List ℕ
printed_error error = numbered_name (number_of error) (name_of error)
