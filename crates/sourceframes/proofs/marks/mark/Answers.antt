-- What is left to show of `mark`.
use Rattle.std.proofs.Common.{arith}
use Rattle.sourceframes.proofs.Marking.{mark_put, mark_past}
use Rattle.sourceframes.proofs.marks.mark.Goals as goal

pub returns-then-place-len-clause-marked : goal.returns-then-place-len-clause-marked
returns-then-place-len-clause-marked c = λ n lt.
    mark_put c.args.marks.now.items c.args.number n (omega (arith, c.if-place-len.true, c.len.ensures))

pub returns-in_ok-insert-clause-marked : goal.returns-in_ok-insert-clause-marked
returns-in_ok-insert-clause-marked c = λ n lt.
    mark_past c.args.marks.now.items c.args.number n lt (omega (arith, c.if-place-len.false, c.len.ensures))
