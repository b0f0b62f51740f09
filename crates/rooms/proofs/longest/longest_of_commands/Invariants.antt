use Rattle.std.proofs.Common.{◌≡◌, max, take}
use Rattle.rooms.specs.Rooms.{brought_steps, largest_by}
use Rattle.rooms.proofs.longest.longest_of_commands.Given as goal

abbrev pub invariant-loop-command : goal.invariant-loop-command
invariant-loop-command l = l.longest ≡ max l.before (largest_by brought_steps (take l.command-index l.commands))
