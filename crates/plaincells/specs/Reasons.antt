-- The number and the name of each reason for which a database is not opened.
use Rattle.std.specs.Prelude.{ℕ, List, codes}
use Rattle.plaincells.specs.declared.opening.OpenError.{OpenError}
use Rattle.plaincells.specs.declared.opening.OpenError.TheVariants as opening

abbrev pub open_number_of : OpenError → ℕ
open_number_of opening.TooMany = 1
open_number_of opening.StoreFull = 2
open_number_of opening.NoMemory = 3

abbrev pub open_name_of : OpenError → List ℕ
open_name_of opening.TooMany = codes "TooMany"
open_name_of opening.StoreFull = codes "StoreFull"
open_name_of opening.NoMemory = codes "NoMemory"
