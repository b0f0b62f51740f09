use Rattle.std.proofs.Common.{◌≡◌, ◌+◌, length, take}
use Rattle.bodystore.specs.Bodies.{expressions_words}
use Rattle.plaincells.proofs.opening.room_behind_expressions.Given as goal

abbrev pub invariant-loop-expression : goal.invariant-loop-expression
invariant-loop-expression l = l.left + length (expressions_words (take l.expression-index l.expressions)) ≡ l.room
