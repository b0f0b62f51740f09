-- What is left to show of `count`.
use Rattle.std.proofs.Common.{◌+◌, ap, sym}
use Rattle.explaining.proofs.Stepped.{code_counted}
use Rattle.explaining.proofs.stepping.count.Goals as goal

pub returns-in-Number-clause-counted : goal.returns-in-Number-clause-counted
returns-in-Number-clause-counted c = λ labels. ap (λ k. c.args.before + k)
    (sym (code_counted labels c.args.code c.in-Number.field-0 c.in-Number.is))
