-- Which commands and replies are within the limits of a prelude.
use Rattle.std.specs.Prelude.{◌≤◌, length, All}
use Rattle.mmsyntax.specs.Tables.{Tables}
use Rattle.mmsyntax.specs.Assertions.{CitesApart, Fits}
pub use Rattle.library.specs.Library.{highest_rank}
use Rattle.library.specs.declared.command.Command.{Command}
use Rattle.library.specs.declared.command.Command.TheVariants.{Add, Reprove, Replace, Rename, Move, Delete, Show, List}
use Rattle.library.specs.declared.command.Reply.{Reply}
use Rattle.library.specs.declared.command.Reply.TheVariants.{Done, Shown, Listed}
use Rattle.mmsyntax.specs.declared.limits.TheConstants.{MOST_STEPS}

-- a rank is at most the highest, an added assertion fits the prelude, and another proof of L has at most 16,384 steps, of which none cites
-- L.k
abbrev pub CommandFits : Tables → Command → Type 0
CommandFits t (Add rank a) = (rank ≤ highest_rank) × Fits t a
CommandFits t (Reprove label steps) = (length steps ≤ MOST_STEPS) × All (CitesApart label) steps
CommandFits t (Replace label old new) = Unit {0}
CommandFits t (Rename old new) = Unit {0}
CommandFits t (Move label rank) = rank ≤ highest_rank
CommandFits t (Delete label) = Unit {0}
CommandFits t (Show label) = Unit {0}
CommandFits t List = Unit {0}

-- an assertion that is shown fits the prelude
abbrev pub ReplyFits : Tables → Reply → Type 0
ReplyFits t Done = Unit {0}
ReplyFits t (Shown rank citers a) = Fits t a
ReplyFits t (Listed lines) = Unit {0}
