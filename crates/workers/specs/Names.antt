-- The number and the name of each reason for which scripts aren't run to their end.
use Rattle.std.specs.Prelude.{ℕ, List, codes}
use Rattle.workers.specs.declared.error.WorkError.{WorkError}
use Rattle.workers.specs.declared.error.WorkError.TheVariants.{NoMemory, NoThread}

abbrev pub number_of : WorkError → ℕ
number_of NoMemory = 1
number_of NoThread = 2

abbrev pub name_of : WorkError → List ℕ
name_of NoMemory = codes "NoMemory"
name_of NoThread = codes "NoThread"
