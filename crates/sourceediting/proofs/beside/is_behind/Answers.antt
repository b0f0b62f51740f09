-- What is left to show of `is_behind`.
use Rattle.sourceediting.proofs.beside.is_behind.Goals as goal

pub returns-then-next-number : goal.returns-then-next-number
returns-then-next-number c = λ holds. (c.if-next-number.true, c.are_put.ensures holds)
