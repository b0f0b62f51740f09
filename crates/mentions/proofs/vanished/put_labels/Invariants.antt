-- What the loop of `put_labels` keeps: the labels so far stand behind the others.
use Rattle.std.proofs.Common.{◌≡◌, ◌++◌, take}
use Rattle.source.specs.Views.{seen_words}
use Rattle.mentions.proofs.vanished.put_labels.Given as goal

abbrev pub invariant-loop-label : goal.invariant-loop-label
invariant-loop-label l =
    seen_words l.labels.items ≡ seen_words l.initial.labels.items ++ seen_words (take l.label-index l.more)
