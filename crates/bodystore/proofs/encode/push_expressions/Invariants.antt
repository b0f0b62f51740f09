-- What the loop of `push_expressions` keeps.
use Rattle.std.proofs.Common.{◌≡◌, ◌++◌, take}
use Rattle.bodystore.specs.Bodies.{expressions_words}
use Rattle.bodystore.proofs.encode.push_expressions.Given as goal

abbrev pub invariant-loop-expression : goal.invariant-loop-expression
invariant-loop-expression l = l.words.items ≡ l.fn.words.items ++ expressions_words (take l.expression-index l.expressions)
