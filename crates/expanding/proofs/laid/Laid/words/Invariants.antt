-- What the loop of `words` keeps: the words so far, and those that are left.
use Rattle.std.proofs.Common.{◌≡◌, ◌++◌, map, drop}
use Rattle.mmtext.specs.Views.{seen}
use Rattle.expanding.proofs.Laying.{left_in}
use Rattle.expanding.proofs.laid.Laid.words.Given as goal

abbrev pub invariant-loop-word : goal.invariant-loop-word
invariant-loop-word l =
    left_in l.word-items l.self.text.items ≡ map seen l.words.items ++ left_in (drop l.word-index l.word-items) l.rest
