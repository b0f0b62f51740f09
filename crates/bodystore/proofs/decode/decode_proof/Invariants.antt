-- What the loop of `decode_proof` keeps.
use Rattle.std.proofs.Common.{◌≡◌, ◌≤◌, List, map, take, length, vec_len}
use Rattle.std.specs.Prelude.{All, vec_capacity}
use Rattle.bodystore.specs.Bodies.{step_word, IsSmallStep}
use Rattle.bodystore.proofs.decode.decode_proof.Given as goal

abbrev pub invariant-loop-word : goal.invariant-loop-word
invariant-loop-word l =
    ((steps : List _) → All IsSmallStep steps → map step_word steps ≡ l.words → l.steps.items ≡ take l.word-index steps)
    × (vec_len l.steps ≡ l.word-index)
    × (length l.words ≤ vec_capacity l.steps)
