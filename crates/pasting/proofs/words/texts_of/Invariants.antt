-- What the loop of `texts_of` keeps: the words so far.
use Rattle.std.proofs.Common.{◌≡◌, map, take}
use Rattle.mmtext.specs.Views.{seen}
use Rattle.source.specs.Views.{seen_words}
use Rattle.expanding.specs.Asking.{spoken_in}
use Rattle.pasting.proofs.words.texts_of.Given as goal

abbrev pub invariant-loop-word : goal.invariant-loop-word
invariant-loop-word l = seen_words l.texts.items ≡ spoken_in (map seen (take l.word-index l.words))
