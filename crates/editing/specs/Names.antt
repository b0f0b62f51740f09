-- The number and the name of each reason for which scripts leave no history: those of `finish` keep their numbers.
use Rattle.std.specs.Prelude.{ℕ, List, codes}
use Rattle.editing.specs.declared.error.EditError.{EditError}
use Rattle.editing.specs.declared.error.EditError.TheVariants as error

abbrev pub number_of : EditError → ℕ
number_of (error.Missing number) = 1
number_of (error.Held cell) = 2
number_of error.NoMemory = 3
number_of error.NoThread = 4

abbrev pub name_of : EditError → List ℕ
name_of (error.Missing number) = codes "Missing"
name_of (error.Held cell) = codes "Held"
name_of error.NoMemory = codes "NoMemory"
name_of error.NoThread = codes "NoThread"
