-- What the loop of `pairs_of` keeps: the labels of the renames so far.
use Rattle.std.proofs.Common.{◌≡◌, map, take}
use Rattle.source.specs.Views.{seen_pairs}
use Rattle.expanding.specs.Bars.{seen_command}
use Rattle.expanding.specs.Called.{renames}
use Rattle.expanding.proofs.renamed.pairs_of.Given as goal

abbrev pub invariant-loop-command : goal.invariant-loop-command
invariant-loop-command l = seen_pairs l.pairs.items ≡ renames (map seen_command (take l.command-index l.commands))
