-- What is left to show of `recalled_other_step`.
use Rattle.std.proofs.Common.{◌≡◌, subst}
use Rattle.std.specs.Prelude.{IfOk}
use Rattle.statementreader.specs.Takings.{step_or_fault}
use Rattle.scripts.proofs.ScriptRows.{other_step_is}
use Rattle.scripts.proofs.script.command_rows.recalled_other_step.Goals as goal

pub returns-clause-named : goal.returns-clause-named
returns-clause-named c =
    let same = other_step_is c.args.prelude.now c.symbols-symbols.result.now c.args.label.now c.args.word.now c.args.count
    c.hypothesis_place-hypothesis.result c.symbols-symbols.ensures c.hypothesis_place-hypothesis.ensures.place in
    subst (λ x. IfOk c.recalled_named_step.result (λ r. step_or_fault c.args.word.now r ≡ x)) same c.recalled_named_step.ensures.named
