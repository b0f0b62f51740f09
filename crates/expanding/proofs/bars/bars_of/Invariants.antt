-- What the loop of `bars_of` keeps: the bars so far.
use Rattle.std.proofs.Common.{◌≡◌, List, map, take}
use Rattle.mmtext.specs.Words.{Word}
use Rattle.expanding.specs.Commands.{Command}
use Rattle.expanding.specs.Bars.{seen_bar, seen_command, bars_of, IsSaid}
use Rattle.expanding.proofs.bars.bars_of.Given as goal

abbrev pub invariant-loop-command : goal.invariant-loop-command
invariant-loop-command g l =
    (asked : List Word) (cs : List Command) → IsSaid asked cs l.said
    → map seen_bar l.bars.items ≡ bars_of (g.D.Declared.scope l.declared) asked cs (map seen_command (take l.command-index l.commands))
