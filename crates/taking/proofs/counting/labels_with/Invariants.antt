-- What the loop of `labels_with` keeps.
use Rattle.std.proofs.Common.{◌≡◌, map}
use Rattle.source.specs.Scopes.{label_of}
use Rattle.source.specs.Views.{seen_words, seen_hypotheses}
use Rattle.taking.proofs.counting.labels_with.Given as goal

abbrev pub invariant-loop-hypothesis : goal.invariant-loop-hypothesis
invariant-loop-hypothesis l = seen_words l.labels.items ≡ map label_of (seen_hypotheses l.yielded)
