-- What the loop of `constants_changing` keeps: the flags so far.
use Rattle.std.proofs.Common.{◌≡◌, take, map}
use Rattle.mmtext.specs.Words.{has_hypothesis_form}
use Rattle.source.specs.Views.{seen_words}
use Rattle.sites.proofs.changes.constants_changing.Given as goal

abbrev pub invariant-loop-word : goal.invariant-loop-word
invariant-loop-word l = l.changes.items ≡ map has_hypothesis_form (seen_words (take l.word-index l.words))
