-- What the loop of `push_expression` keeps.
use Rattle.std.proofs.Common.{◌≡◌, ◌++◌, ◌∷◌, length, map, take}
use Rattle.bodystore.specs.Bodies.{symbol_word}
use Rattle.bodystore.proofs.encode.push_expression.Given as goal

abbrev pub invariant-loop-symbol : goal.invariant-loop-symbol
invariant-loop-symbol l = l.words.items ≡ l.fn.words.items ++ length l.symbols ∷ map symbol_word (take l.symbol-index l.symbols)
