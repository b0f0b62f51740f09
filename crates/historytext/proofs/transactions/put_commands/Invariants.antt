-- What the loop of `put_commands` keeps.
use Rattle.std.proofs.Common.{◌≡◌, ◌++◌, take}
use Rattle.std.specs.List.{flat_map}
use Rattle.historytext.specs.Layout.{command_text}
use Rattle.historytext.proofs.transactions.put_commands.Given as goal

abbrev pub invariant-loop-command : goal.invariant-loop-command
invariant-loop-command l = l.out.items ≡ l.fn.out.items ++ flat_map (command_text l.prelude) (take l.command-index l.commands)
