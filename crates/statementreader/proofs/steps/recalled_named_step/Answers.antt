-- What is left to show of `recalled_named_step`.
use Rattle.std.proofs.Common.{◌∙◌, sym, ap}
use Rattle.mmsyntax.specs.Tables.{meaning}
use Rattle.mmsyntax.specs.Rows.{first_fault}
use Rattle.mmsyntax.specs.Steps.{step_tests, float_named, step_named, unless_faulty}
use Rattle.statementreader.specs.Takings.{step_or_fault}
use Rattle.statementreader.proofs.steps.recalled_named_step.Goals as goal

pub name_by_recall-requires-clause-known : goal.name_by_recall-requires-clause-known
name_by_recall-requires-clause-known c = (c.at.ensures c.args.symbols.now c.args.word.now c.in_ok-place.ensures.found).1

pub returns-clause-named : goal.returns-clause-named
returns-clause-named c =
    let t = c.args.symbols.now in
    let l = c.args.step.label.now in
    let n = c.args.step.count in
    let h = c.args.hypothesis in
    let kept = c.at.ensures t c.args.word.now c.in_ok-place.ensures.found in
    ap (λ v. step_or_fault v c.name_by_recall.result) (sym kept.0)
    ∙ c.name_by_recall.ensures.named
    ∙ ap (λ v. unless_faulty (first_fault (step_tests n v)) (step_named l v (float_named (meaning t v)) h)) kept.0
