-- What the loop of `added` keeps: the labels of what the commands so far add.
use Rattle.std.proofs.Common.{◌≡◌, map, take}
use Rattle.source.specs.Views.{seen_words}
use Rattle.expanding.specs.Bars.{seen_command}
use Rattle.expanding.specs.Discouraged.{added}
use Rattle.expanding.proofs.names.added.Given as goal

abbrev pub invariant-loop-command : goal.invariant-loop-command
invariant-loop-command l = seen_words l.labels.items ≡ added (map seen_command (take l.command-index l.commands))
