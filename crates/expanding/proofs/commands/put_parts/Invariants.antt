-- What the loop of `put_parts` keeps: the parts so far.
use Rattle.std.proofs.Common.{◌≡◌, ◌++◌, map, take}
use Rattle.expanding.specs.Commands.{command_of}
use Rattle.expanding.specs.Bars.{seen_part, seen_command}
use Rattle.expanding.proofs.commands.put_parts.Given as goal

abbrev pub invariant-loop-words : goal.invariant-loop-words
invariant-loop-words l =
    map seen_command l.commands.items
    ≡ map seen_command l.fn.commands.items ++ map (command_of l.script) (map seen_part (take l.words-index l.parts))
