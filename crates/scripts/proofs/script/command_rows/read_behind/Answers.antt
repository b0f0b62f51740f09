-- What is left to show of `read_behind`.
use Rattle.scripts.proofs.script.command_rows.read_behind.Goals as goal

pub returns-in-Reprove-One : goal.returns-in-Reprove-One
returns-in-Reprove-One c = rw (c.in-Reprove-One.is-0, c.in-Reprove-One.is-1) (c.read_proof_start.ensures c.args.prelude.now)

pub returns-in-Move-One : goal.returns-in-Move-One
returns-in-Move-One c = rw (c.in-Move-One.is-0, c.in-Move-One.is-1) (c.read_new_rank.ensures c.args.prelude.now)
