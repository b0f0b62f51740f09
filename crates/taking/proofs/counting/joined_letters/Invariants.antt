-- What the loop of `joined_letters` keeps.
use Rattle.std.proofs.Common.{◌≡◌, take}
use Rattle.std.specs.List.{flat_map}
use Rattle.source.specs.Views.{seen_words}
use Rattle.taking.proofs.counting.joined_letters.Given as goal

abbrev pub invariant-loop-word : goal.invariant-loop-word
invariant-loop-word l = l.letters.items ≡ flat_map (λ w. w) (seen_words (take l.word-index l.words))
