-- What the loop of `read_expression` keeps.
use Rattle.std.proofs.Common.{◌≡◌, ◌≤◌, List, length, map, take, vec_len, vec_capacity}
use Rattle.std.specs.Prelude.{All}
use Rattle.bodystore.specs.Bodies.{symbol_word, IsSmallSymbol}
use Rattle.bodystore.proofs.decode.read_expression.Given as goal

abbrev pub invariant-loop-word : goal.invariant-loop-word
invariant-loop-word l =
    ((e : List _) → All IsSmallSymbol e → map symbol_word e ≡ l.words → l.symbols.items ≡ take l.word-index e)
    × (vec_len l.symbols ≡ l.word-index)
    × (length l.words ≤ vec_capacity l.symbols)
