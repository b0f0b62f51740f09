-- What the loop of `texts_of` keeps: the texts of the words so far.
use Rattle.std.proofs.Common.{◌≡◌, map, take}
use Rattle.mmtext.specs.Views.{seen}
use Rattle.source.specs.Views.{seen_words}
use Rattle.mentions.proofs.lines.texts_of.Given as goal

abbrev pub invariant-loop-word : goal.invariant-loop-word
invariant-loop-word l = seen_words l.texts.items ≡ map (λ t. t.text) (map seen (take l.word-index l.words))
