-- What is left to show of `take_code`.
use Rattle.std.proofs.Common.{◌≡◌, true, pred, sym, ap, subst, ◌∙◌, arith}
use Rattle.source.specs.Letters.{is_absent}
use Rattle.source.specs.Proofs.{numbered, step_of}
use Rattle.sourcecheck.specs.Shown.{Leads}
use Rattle.sourcecheck.proofs.stepping.take_code.Goals as goal

pub returns-in-Number : goal.returns-in-Number
returns-in-Number c = λ name earlier x labels stands named there.
    let same : c.saturating_sub-number.result ≡ pred c.in-Number.number = omega (arith, c.saturating_sub-number.ensures) in
    subst (λ step. Leads name earlier x step c.args.stack.now c.take_number.new.stack c.take_number.result)
    (ap (numbered labels) same ∙ sym (ap (step_of labels) c.in-Number.is))
    (c.take_number.ensures name earlier x labels stands named)

pub returns-in-Unknown : goal.returns-in-Unknown
returns-in-Unknown c = λ name earlier x labels stands named there.
    let absent : is_absent c.args.code ≡ true = ap is_absent c.in-Unknown.is in
    absurd cc
