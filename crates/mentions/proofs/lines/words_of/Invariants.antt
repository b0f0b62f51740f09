-- What the loop of `words_of` keeps: those of the words so far that are the label.
use Rattle.std.proofs.Common.{◌≡◌, map, take}
use Rattle.std.specs.Prelude.{filter}
use Rattle.std.specs.Str.{bytes_eq}
use Rattle.mmtext.specs.Views.{seen}
use Rattle.mentions.proofs.lines.words_of.Given as goal

abbrev pub invariant-loop-word : goal.invariant-loop-word
invariant-loop-word l = map seen l.made.items ≡ filter (λ t. bytes_eq t.text l.label) (map seen (take l.word-index l.words))
