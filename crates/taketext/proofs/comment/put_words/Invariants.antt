-- What the loop of `put_words` keeps.
use Rattle.std.proofs.Common.{◌≡◌, ◌++◌, take}
use Rattle.mmsyntax.specs.Layout.{spaced}
use Rattle.source.specs.Views.{seen_words}
use Rattle.taketext.proofs.comment.put_words.Given as goal

abbrev pub invariant-loop-word : goal.invariant-loop-word
invariant-loop-word l = l.out.items ≡ l.fn.out.items ++ spaced (seen_words (take l.word-index l.words))
