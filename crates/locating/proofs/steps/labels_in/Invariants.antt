-- What the loop of `labels_in` keeps: the words so far are steps.
use Rattle.std.proofs.Common.{◌≡◌, map, take}
use Rattle.mmtext.specs.Views.{seen}
use Rattle.locating.specs.Steps.{whole_word}
use Rattle.locating.proofs.steps.labels_in.Given as goal

abbrev pub invariant-loop-word : goal.invariant-loop-word
invariant-loop-word l = l.ends.items ≡ map whole_word (map seen (take l.word-index l.words))
