-- What is left to show of `put`.
use Rattle.std.proofs.Common.{subst}
use Rattle.sourcewriting.specs.Walked.{IsPut}
use Rattle.sourcewriting.proofs.lettering.Letters.put.Goals as goal

pub returns-then-put-clause-read : goal.returns-then-put-clause-read
returns-then-put-clause-read c = λ cs old new sound counted is again was.
    let s = c.args.shared.now in
    c.repeat.ensures.read s cs old new counted (subst (λ b. IsPut s c.args.put.node b old new) c.if-put.true is)
    (again c.if-put.true) was

pub returns-else-put-clause-read : goal.returns-else-put-clause-read
returns-else-put-clause-read c = λ cs old new sound counted is again was.
    let s = c.args.shared.now in
    c.end.ensures.read cs old new sound counted (subst (λ b. IsPut s c.args.put.node b old new) c.if-put.false is) was
