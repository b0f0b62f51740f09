-- The number and the name of each reason for which a library is not opened.
use Rattle.std.specs.Prelude.{ℕ, List, codes}
use Rattle.transaction.specs.declared.shape.OpenError.{OpenError}
use Rattle.transaction.specs.declared.shape.OpenError.TheVariants.{BadShape, TooMany, ProofFails, StoreFull, NoMemory}

abbrev pub open_number_of : OpenError → ℕ
open_number_of BadShape = 1
open_number_of TooMany = 2
open_number_of (ProofFails _ _) = 3
open_number_of StoreFull = 4
open_number_of NoMemory = 5

abbrev pub open_name_of : OpenError → List ℕ
open_name_of BadShape = codes "BadShape"
open_name_of TooMany = codes "TooMany"
open_name_of (ProofFails _ _) = codes "ProofFails"
open_name_of StoreFull = codes "StoreFull"
open_name_of NoMemory = codes "NoMemory"
