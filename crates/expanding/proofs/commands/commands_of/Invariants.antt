-- What the loop of `commands_of` keeps: the commands of the scripts so far.
use Rattle.std.proofs.Common.{map, take}
use Rattle.expanding.specs.Commands.{AreCommands}
use Rattle.expanding.specs.Bars.{seen_command}
use Rattle.expanding.specs.Views.{seen_scripts}
use Rattle.expanding.proofs.commands.commands_of.Given as goal

abbrev pub invariant-loop-script : goal.invariant-loop-script
invariant-loop-script l = AreCommands 0 (seen_scripts (take l.script l.scripts)) (map seen_command l.commands.items)
