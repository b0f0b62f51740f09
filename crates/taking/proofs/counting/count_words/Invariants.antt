-- What the loop of `count_words` keeps.
use Rattle.std.proofs.Common.{◌≡◌, map, take}
use Rattle.source.specs.Proofs.{step_of_word, step_of}
use Rattle.source.specs.Views.{seen_words}
use Rattle.taking.proofs.counting.count_words.Given as goal

abbrev pub invariant-loop-word : goal.invariant-loop-word
invariant-loop-word l =
    (l.number ≡ l.word-index)
    × (map (step_of (seen_words l.words)) l.codes.items ≡ map step_of_word (take l.word-index (seen_words l.words)))
