-- What the loop of `put_words` keeps.
use Rattle.std.proofs.Common.{◌≡◌, ◌++◌, take}
use Rattle.mmsyntax.specs.Layout.{spaced}
use Rattle.mmwriter.proofs.writing.put_words.Given as goal

abbrev pub invariant-loop-word : goal.invariant-loop-word
invariant-loop-word l = l.out.items ≡ l.fn.out.items ++ spaced (take l.word-index l.words)
