-- What is left to show of `other_step`.
use Rattle.std.proofs.Common.{◌∙◌}
use Rattle.scripts.proofs.ScriptRows.{other_step_is}
use Rattle.scripts.proofs.script.command_rows.other_step.Goals as goal

pub returns-clause-named : goal.returns-clause-named
returns-clause-named c =
    c.named_step.ensures.named
    ∙ other_step_is c.args.prelude.now c.symbols.result.now c.args.label.now c.args.word.now c.args.count
    c.hypothesis_place-hypothesis.result c.symbols.ensures c.hypothesis_place-hypothesis.ensures.place
