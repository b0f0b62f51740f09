-- Of the code's inside, apart from the rules: what a look for a label tells that some assertion is to have.
use Rattle.std.specs.Prelude.{◌≡◌, ℕ, List, None}
use Rattle.library.specs.declared.reason.Reason.TheVariants.{UnknownLabel}
use Rattle.library.specs.Edits.{found}
use Rattle.cells.specs.Sight.{Sight, IsCaused}
use Rattle.cells.specs.Lookups.{ForEach}
use Rattle.cells.specs.declared.ending.CommandError.{CommandError}
use Rattle.cells.specs.declared.ending.CommandError.TheVariants.{Halted, Refused}

-- why no slot has a label: no assertion has it, or the run halts
abbrev pub TellsUnknown : {O : Type 0} → Sight O → List ℕ → CommandError → Type 0
TellsUnknown s label (Refused reason) = (reason ≡ UnknownLabel) × ForEach s (λ st lib. found lib label ≡ None)
TellsUnknown s label (Halted halt) = IsCaused s halt
