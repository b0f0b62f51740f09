-- What the loop of `labels_in_bars` keeps: the labels so far.
use Rattle.std.proofs.Common.{◌≡◌, map, take}
use Rattle.source.specs.Views.{seen_words}
use Rattle.expanding.specs.Bars.{seen_bar}
use Rattle.expanding.specs.Watches.{label_of}
use Rattle.expanding.proofs.barred.labels_in_bars.Given as goal

abbrev pub invariant-loop-bar : goal.invariant-loop-bar
invariant-loop-bar l = seen_words l.labels.items ≡ map label_of (map seen_bar (take l.bar-index l.bars))
