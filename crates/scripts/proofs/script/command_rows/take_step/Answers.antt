-- What is left to show of `take_step`: what was looked up lately is so, whether or not there was memory for one more step.
use Rattle.scripts.proofs.script.command_rows.take_step.Goals as goal

pub returns-in_err-push_named-in-Ok-clause-knows : goal.returns-in_err-push_named-in-Ok-clause-knows
returns-in_err-push_named-in-Ok-clause-knows c = c.push_named.ensures.known c.args.prelude.now c.recalled_other_step.ensures.knows

pub returns-in_ok-push_named-in-Ok-clause-knows : goal.returns-in_ok-push_named-in-Ok-clause-knows
returns-in_ok-push_named-in-Ok-clause-knows c = c.push_named.ensures.known c.args.prelude.now c.recalled_other_step.ensures.knows
