-- What the loop of `pairs_of` keeps.
use Rattle.std.proofs.Common.{◌≡◌, ◌≤◌, List, map, take, length, vec_len}
use Rattle.std.specs.Prelude.{All, vec_capacity}
use Rattle.bodystore.specs.Bodies.{pair_word, IsSmallPair}
use Rattle.bodystore.proofs.decode.pairs_of.Given as goal

abbrev pub invariant-loop-word : goal.invariant-loop-word
invariant-loop-word l =
    ((pairs : List _) → All IsSmallPair pairs → map pair_word pairs ≡ l.words → l.pairs.items ≡ take l.word-index pairs)
    × (vec_len l.pairs ≡ l.word-index)
    × (length l.words ≤ vec_capacity l.pairs)
