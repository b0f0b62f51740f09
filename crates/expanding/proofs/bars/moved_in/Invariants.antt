-- What the loop of `moved_in` keeps: the labels that are moved so far.
use Rattle.std.proofs.Common.{◌≡◌, map, take}
use Rattle.source.specs.Views.{seen_pairs}
use Rattle.expanding.specs.Bars.{seen_command, moved_in}
use Rattle.expanding.proofs.bars.moved_in.Given as goal

abbrev pub invariant-loop-command : goal.invariant-loop-command
invariant-loop-command l = seen_pairs l.pairs.items ≡ moved_in (map seen_command (take l.command-index l.commands))
