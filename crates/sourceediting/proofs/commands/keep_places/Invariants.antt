-- What the loop of `keep_places` keeps.
use Rattle.std.proofs.Common.{take}
use Rattle.std.specs.Prelude.{All}
use Rattle.sourceediting.specs.Following.{KeepsPlaces, all_commands}
use Rattle.sourceediting.proofs.commands.keep_places.Given as goal

-- so do the commands of the entries so far
abbrev pub invariant-loop-entry : goal.invariant-loop-entry
invariant-loop-entry l = All KeepsPlaces (all_commands (take l.entry-index l.entries))
