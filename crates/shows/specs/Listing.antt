-- Of the code's inside, apart from the rules: the lines of a list, for every state that may be under the run.
use Rattle.std.specs.Prelude.{◌≡◌, ℕ, List, map, IsPermutation}
use Rattle.library.specs.declared.command.Line.{Line}
use Rattle.library.specs.Edits.{listing_line}
use Rattle.cells.specs.Sight.{Sight}
use Rattle.cells.specs.Lookups.{ForEach, ForEachHeld}

-- what is listed of the assertion in the slot
abbrev pub TellsLine : {O : Type 0} → Sight O → ℕ → Line → Type 0
TellsLine s i made = ForEachHeld s i (λ st lib e. made ≡ listing_line lib e)

-- the lines of all assertions, in whatever order
abbrev pub AreAllLines : {O : Type 0} → Sight O → List Line → Type 0
AreAllLines s made = ForEach s (λ st lib. IsPermutation (map (listing_line lib) lib) made)
