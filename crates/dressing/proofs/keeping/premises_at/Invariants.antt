-- What the loop of `premises_at` keeps: the labels of the `$e` so far.
use Rattle.std.proofs.Common.{◌≡◌}
use Rattle.source.specs.Views.{seen_hypotheses, seen_words}
use Rattle.taking.specs.Listings.{premise_labels}
use Rattle.dressing.proofs.keeping.premises_at.Given as goal

abbrev pub invariant-loop-hypothesis : goal.invariant-loop-hypothesis
invariant-loop-hypothesis g l = seen_words l.made.items ≡ premise_labels (seen_hypotheses l.yielded)
