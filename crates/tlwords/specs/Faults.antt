-- The number and the name of each fault.
use Rattle.std.specs.Prelude.{ℕ, List, ◌∷◌, ◌++◌, codes}
use Rattle.std.specs.Fmt.{decimal}
use Rattle.tlwords.specs.declared.opening.OpenFault.{OpenFault}
use Rattle.tlwords.specs.declared.opening.OpenFault.TheVariants.{BadShape, StoreFull, NoMemory}

-- numbers from 1
abbrev pub number_of : OpenFault → ℕ
number_of BadShape = 1
number_of StoreFull = 2
number_of NoMemory = 3

-- the names as messages print them
abbrev pub name_of : OpenFault → List ℕ
name_of BadShape = codes "BadShape"
name_of StoreFull = codes "StoreFull"
name_of NoMemory = codes "NoMemory"

-- number, space, name
abbrev pub printed : ℕ → List ℕ → List ℕ
printed number name = decimal number ++ 32 ∷ name
