-- What is left to show of `put_number`.
use Rattle.std.proofs.Common.{arith}
use Rattle.sourcewriting.proofs.Appended.{last_put}
use Rattle.sourcewriting.proofs.letters.put_number.Goals as goal

pub returns : goal.returns
returns c = λ small.
    last_put _ _ _ _ _ (c.in_ok-put_front.ensures (omega arith)) c.in_ok-push.ensures.items _
    (omega arith) (omega arith) (omega arith) (omega arith)
