-- The number and the name of each error of an export.
use Rattle.std.specs.Prelude.{ℕ, List, codes}
use Rattle.export.specs.declared.error.ExportError.{ExportError}
use Rattle.export.specs.declared.error.ExportError.TheVariants.{Write, NoMemory}

abbrev pub number_of : ExportError → ℕ
number_of (Write written) = 1
number_of NoMemory = 2

abbrev pub name_of : ExportError → List ℕ
name_of (Write written) = codes "Write"
name_of NoMemory = codes "NoMemory"
