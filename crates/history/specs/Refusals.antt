-- Of the code's inside, apart from the rules: the reason for which a command is refused, that of the first test that has one.
use Rattle.std.specs.Prelude.{[], ◌∷◌, Option, Some, None}
use Rattle.library.specs.declared.reason.Reason.{Reason}
use Rattle.library.specs.Edits.{Tests}

abbrev pub first_reason : Tests → Option Reason
first_reason [] = None
first_reason (None ∷ ts) = first_reason ts
first_reason (Some r ∷ ts) = Some r
