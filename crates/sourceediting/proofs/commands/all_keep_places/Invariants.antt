-- What the loop of `all_keep_places` keeps.
use Rattle.std.proofs.Common.{take}
use Rattle.std.specs.Prelude.{All}
use Rattle.sourceediting.specs.Following.{KeepsPlaces}
use Rattle.sourceediting.proofs.commands.all_keep_places.Given as goal

-- so do the commands so far
abbrev pub invariant-loop-command : goal.invariant-loop-command
invariant-loop-command l = All KeepsPlaces (take l.command-index l.commands)
