-- What the loop of `words_of` keeps.
use Rattle.std.proofs.Common.{length}
use Rattle.source.specs.Views.{seen_words}
use Rattle.taketext.proofs.Words.{AreFront}
use Rattle.taketext.proofs.origin.words_of.Given as goal

-- words, and what is left of the line
abbrev pub invariant-loop-word : goal.invariant-loop-word
invariant-loop-word l = AreFront l.line l.left (seen_words l.words.items)

abbrev pub decreases-loop-word : goal.decreases-loop-word
decreases-loop-word l = length l.left
