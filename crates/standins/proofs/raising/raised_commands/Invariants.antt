-- What the loop of `raised_commands` keeps: the commands so far.
use Rattle.std.proofs.Common.{◌≡◌, map, take}
use Rattle.standins.specs.StandIns.{raised_command}
use Rattle.standins.proofs.raising.raised_commands.Given as goal

abbrev pub invariant-loop-command : goal.invariant-loop-command
invariant-loop-command l = l.made.items ≡ map (raised_command l.by) (take l.command-index l.commands)
