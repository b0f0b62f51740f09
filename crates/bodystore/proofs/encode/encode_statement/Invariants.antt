-- What the loop of `encode_statement` keeps.
use Rattle.std.proofs.Common.{◌≡◌, ◌∷◌, length, map, take}
use Rattle.bodystore.specs.Bodies.{kind_word, pair_word}
use Rattle.bodystore.proofs.encode.encode_statement.Given as goal

abbrev pub invariant-loop-pair : goal.invariant-loop-pair
invariant-loop-pair l =
    let a = l.assertion in
    l.words.items ≡ kind_word a.kind ∷ length a.pairs ∷ length a.hyps ∷ map pair_word (take l.pair-index a.pairs)
