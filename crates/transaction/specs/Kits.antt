-- Of the code's inside, apart from the rules: what the pass of a session knows, which a run may have for a time.
use Rattle.std.specs.Prelude.{Option, Some, None, Bool, false}
use Rattle.std.specs.FinMap.{empty}
use Rattle.bodystore.specs.Stages.{Staged}
use Rattle.lending.specs.Lent.{Pass, Carried}
use Rattle.transaction.specs.Members.{no_pass}

-- what the pass knows; nothing while a run has it
abbrev pub known_in : Option Carried → Pass
known_in None = no_pass
known_in (Some k) = k.pass

-- what is staged; nothing then
abbrev pub staged_in : Option Carried → Staged
staged_in None = empty
staged_in (Some k) = k.staged

-- whether the last run lacked room; not so then
abbrev pub lacked_in : Option Carried → Bool
lacked_in None = false
lacked_in (Some k) = k.lacked_room
