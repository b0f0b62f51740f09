-- What is left to show of `is_in_front`.
use Rattle.sourceediting.proofs.beside.is_in_front.Goals as goal

pub returns-then-number-next : goal.returns-then-number-next
returns-then-number-next c = λ holds. (c.if-number-next.true, c.are_put.ensures holds)
