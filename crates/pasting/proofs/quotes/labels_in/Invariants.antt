-- What the loop of `labels_in` keeps: the labels so far.
use Rattle.std.proofs.Common.{◌≡◌, map, take}
use Rattle.source.specs.Scopes.{label_of}
use Rattle.source.specs.Views.{seen_hypothesis, seen_words}
use Rattle.pasting.proofs.quotes.labels_in.Given as goal

abbrev pub invariant-loop-hypothesis : goal.invariant-loop-hypothesis
invariant-loop-hypothesis l = seen_words l.labels.items ≡ map label_of (map seen_hypothesis (take l.hypothesis-index l.hypotheses))
