-- What the loop of `put_words` keeps: the words so far.
use Rattle.std.proofs.Common.{◌≡◌, ◌++◌, map, take}
use Rattle.source.specs.Views.{seen_words}
use Rattle.standins.proofs.labels.put_words.Given as goal

abbrev pub invariant-loop-word : goal.invariant-loop-word
invariant-loop-word l = seen_words l.found.items ≡ seen_words l.fn.found.items ++ map (λ t. t.text.now) (take l.word-index l.script)
