-- What is left to show of `name_by_recall`.
use Rattle.std.proofs.Common.{◌∙◌, sym, ap}
use Rattle.mmsyntax.specs.Steps.{step_named}
use Rattle.statementreader.proofs.TakenWords.{recalled_named}
use Rattle.statementreader.proofs.steps.name_by_recall.Goals as goal

pub returns-in-Some-clause-named : goal.returns-in-Some-clause-named
returns-in-Some-clause-named c =
    let l = c.args.step.label.now in
    let h = c.args.hypothesis in
    let r = c.args.known.now in
    ap (λ n. step_named l r.word.now n h) (sym c.in-Some.is ∙ c.float_named.ensures.value)
    ∙ recalled_named c.args.symbols.now l h c.args.step.count r c.requires.known c.if-not-known.false c.if-step-ge-MOST_STEPS.false

pub returns-in-None-clause-named : goal.returns-in-None-clause-named
returns-in-None-clause-named c =
    let l = c.args.step.label.now in
    let h = c.args.hypothesis in
    let r = c.args.known.now in
    c.label_named.ensures.named ∙ ap (λ n. step_named l r.word.now n h) (sym c.in-None.is ∙ c.float_named.ensures.value)
    ∙ recalled_named c.args.symbols.now l h c.args.step.count r c.requires.known c.if-not-known.false c.if-step-ge-MOST_STEPS.false
