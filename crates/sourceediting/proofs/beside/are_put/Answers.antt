-- What is left to show of `are_put`.
use Rattle.std.proofs.Common.{◌∙◌, sym, ap, subst, arith}
use Rattle.library.specs.declared.library.Ranked.{Ranked}
use Rattle.sourceediting.specs.Refusals.{IsPut}
use Rattle.sourceediting.specs.Views.{seen_living}
use Rattle.sourceediting.proofs.Numbered.{put_more}
use Rattle.sourceediting.proofs.beside.are_put.Goals as goal

pub loop-number-preserved : goal.loop-number-preserved
loop-number-preserved c =
    let living = seen_living c.args.living.now in
    let entry = c.index-entries-number in
    put_more living c.args.entries.now c.args.from c.loop-number.number entry.result
    (omega (arith, c.loop-number-test.true, c.requires)) entry.is c.loop-number.invariant
    (subst (IsPut living) (c.as_slice.ensures ∙ ap (λ (r : Ranked). r.assertion.label) (sym entry.is))
    (c.is_put.ensures c.if-not-is_put.false))

pub returns : goal.returns
returns c = λ _ k label later lt h. c.loop-number.invariant k label later (omega (arith, lt, c.loop-number-test.false)) h
