-- What is left to show of `take_codes`.
use Rattle.std.proofs.Common.{◌+◌, map, drop, sym, subst, arith}
use Rattle.std.proofs.lemmas.List.{map_more, take_all}
use Rattle.mmsyntax.proofs.Distinct.{any_at}
use Rattle.source.specs.Letters.{is_absent}
use Rattle.source.specs.Proofs.{step_of}
use Rattle.sourcecheck.specs.Shown.{Reached, IsFaultOfKind}
use Rattle.sourcecheck.proofs.Running.{mapped_around, reached_more, reached_fails, ended, end_fails}
use Rattle.sourcecheck.proofs.stepping.take_codes.Goals as goal

pub returns-in-Err : goal.returns-in-Err
returns-in-Err c = λ name earlier x labels stands named is there.
    let codes = c.args.codes.now in
    let i = c.loop-code.code-index in
    let before = c.loop-code.invariant.reached name earlier x labels stands named there in
    subst (λ ss. IsFaultOfKind earlier x ss c.count-step.result c.in-Err.kind)
    (sym (mapped_around (step_of labels) codes i _ c.loop-code-test.true))
    (reached_fails name earlier x _ c.loop-code.stack c.loop-code.step before _ c.count-step.result (c.count-step.ensures.counted labels)
    c.in-Err.kind (c.in-Err.ensures name earlier x labels stands named (any_at is_absent codes i _ there c.loop-code-test.true))
    (map (step_of labels) (drop (i + 1) codes)))

pub loop-code-preserved : goal.loop-code-preserved
loop-code-preserved c = record {
  few = omega (arith, c.loop-code.invariant.few, c.count-step.ensures.few);
  reached = λ name earlier x labels stands named there.
      let codes = c.args.codes.now in
      let i = c.loop-code.code-index in
      let before = c.loop-code.invariant.reached name earlier x labels stands named there in
      subst (λ ss. Reached name earlier x ss c.take_code.new.stack c.count-step.result)
      (sym (map_more (step_of labels) codes i _ c.loop-code-test.true))
      (reached_more name earlier x _ c.loop-code.stack c.loop-code.step before _ c.count-step.result (c.count-step.ensures.counted labels)
      c.take_code.new.stack (c.in-Ok.ensures name earlier x labels stands named (any_at is_absent codes i _ there c.loop-code-test.true)));
}

pub returns-in-Ok-check_end : goal.returns-in-Ok-check_end
returns-in-Ok-check_end c = λ name earlier x labels stands named is there.
    let codes = c.args.codes.now in
    let all = c.loop-code.invariant.reached name earlier x labels stands named there in
    let whole = subst (λ cs. Reached name earlier x (map (step_of labels) cs) c.loop-code.stack c.loop-code.step)
    (take_all c.loop-code.code-index codes c.loop-code-test.false) all in
    ended name earlier x (map (step_of labels) codes) c.loop-code.stack c.loop-code.step whole c.args.statement.now
    c.in-Ok-check_end.ensures is

pub returns-in-Err-check_end : goal.returns-in-Err-check_end
returns-in-Err-check_end c = λ name earlier x labels stands named is there.
    let codes = c.args.codes.now in
    let all = c.loop-code.invariant.reached name earlier x labels stands named there in
    let whole = subst (λ cs. Reached name earlier x (map (step_of labels) cs) c.loop-code.stack c.loop-code.step)
    (take_all c.loop-code.code-index codes c.loop-code-test.false) all in
    end_fails name earlier x (map (step_of labels) codes) c.loop-code.stack c.loop-code.step whole stands.injective c.args.statement.now
    c.in-Err-check_end.kind is c.in-Err-check_end.ensures
