-- What the loop of `floats_changing` keeps: the flags so far.
use Rattle.std.proofs.Common.{◌≡◌, take, map}
use Rattle.mmtext.specs.Words.{has_dot}
use Rattle.source.specs.Views.{seen_words}
use Rattle.sites.proofs.changes.floats_changing.Given as goal

abbrev pub invariant-loop-label : goal.invariant-loop-label
invariant-loop-label l = l.changes.items ≡ map has_dot (seen_words (take l.label-index l.labels))
