-- What is left to show of `read_new_rank`.
use Rattle.std.proofs.Common.{ℕ}
use Rattle.std.proofs.lemmas.Result.{err_from_is_err_and}
use Rattle.mmtext.specs.Views.{seen}
use Rattle.library.specs.declared.command.Command.TheVariants as command
use Rattle.scripts.specs.ScriptFaults.{at_end}
use Rattle.scripts.proofs.ScriptRows.{rank_fails}
use Rattle.scripts.proofs.script.command_rows.read_new_rank.Goals as goal

pub returns-in_err-rank : goal.returns-in_err-rank
returns-in_err-rank c t =
    let u = seen c.args.token in
    let p = err_from_is_err_and c.from_residual.result c.from_residual.ensures.1 in
    let why = c.in_err-rank.field-0.0 in
    rw (p.1, p.2) (rank_fails u (λ (n : ℕ). at_end (command.Move c.args.label n)) why c.in_err-rank.ensures)
