use Rattle.std.proofs.Common.{◌≡◌, ◌-◌, sum_by, take}
use Rattle.groundwork.specs.Takes.{command_words}
use Rattle.rooms.proofs.needed.behind_commands.Given as goal

abbrev pub invariant-loop-command : goal.invariant-loop-command
invariant-loop-command l = l.left ≡ l.room - sum_by (command_words (λ label. l.longest)) (take l.command-index l.commands)
