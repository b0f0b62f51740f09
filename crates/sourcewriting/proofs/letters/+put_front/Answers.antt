-- What is left to show of `put_front`.
use Rattle.std.proofs.Common.{arith}
use Rattle.sourcewriting.proofs.Appended.{none_put, front_put}
use Rattle.sourcewriting.proofs.letters.+put_front.Goals as goal

pub returns-then-front-eq0 : goal.returns-then-front-eq0
returns-then-front-eq0 t c = λ _.
    let letters = c.args.letters.now.items in
    rw c.if-front-eq0.true (none_put letters)

pub returns : goal.returns
returns t c = λ small.
    front_put _ _ _ _ _ (c.in_ok-put_front.ensures (omega arith)) c.in_ok-push.ensures.items c.args.front
    (omega arith) (omega arith) (omega arith) (omega arith)
