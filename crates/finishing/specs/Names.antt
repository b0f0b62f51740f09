-- The number and the name of each reason for which a library has no whole history.
use Rattle.std.specs.Prelude.{ℕ, List, codes}
use Rattle.finishing.specs.declared.error.FinishError.{FinishError}
use Rattle.finishing.specs.declared.error.FinishError.TheVariants as error

abbrev pub number_of : FinishError → ℕ
number_of (error.Missing number) = 1
number_of (error.Held cell) = 2
number_of error.NoMemory = 3

abbrev pub name_of : FinishError → List ℕ
name_of (error.Missing number) = codes "Missing"
name_of (error.Held cell) = codes "Held"
name_of error.NoMemory = codes "NoMemory"
