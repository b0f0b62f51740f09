-- What the loop of `label_in` keeps: the label is that of the words from the last one on.
use Rattle.std.proofs.Common.{◌≡◌, ◌∷◌, map, drop}
use Rattle.mmtext.specs.Views.{seen}
use Rattle.expanding.specs.Descriptions.{label_in}
use Rattle.expanding.proofs.described.label_in.Given as goal

abbrev pub invariant-loop-word : goal.invariant-loop-word
invariant-loop-word l = label_in (map seen l.unit) ≡ label_in (seen l.before ∷ map seen (drop l.word-index l.rest))
