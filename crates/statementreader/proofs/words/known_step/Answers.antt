-- What is left to show of `known_step`.
use Rattle.std.proofs.Common.{◌∙◌}
use Rattle.mmsyntax.specs.Faults.{block_of}
use Rattle.statementreader.specs.Views.{seen_scope}
use Rattle.statementreader.proofs.TakenWords.{recalled}
use Rattle.statementreader.proofs.words.known_step.Goals as goal

pub returns-clause-named : goal.returns-clause-named
returns-clause-named c =
    let hyps = (block_of (seen_scope c.args.scope.now)).hyps in
    c.recalled_step.ensures.named
    ∙ recalled c.args.symbols.now c.args.step.label.now hyps c.args.step.count c.args.known.now c.requires c.if-not-known.false
    c.if-step-ge-MOST_STEPS.false
