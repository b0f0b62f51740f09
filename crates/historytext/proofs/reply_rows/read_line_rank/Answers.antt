-- What is left to show of `read_line_rank`.
use Rattle.std.proofs.Common.{ℕ}
use Rattle.mmtext.specs.Views.{seen}
use Rattle.library.specs.Fitting.{highest_rank}
use Rattle.historytext.specs.Places.{going, at_label}
use Rattle.historytext.proofs.Rows.{number_fails}
use Rattle.historytext.proofs.reply_rows.read_line_rank.Goals as goal

pub returns-in-Err : goal.returns-in-Err
returns-in-Err c t =
    let u = seen c.args.token in
    number_fails highest_rank u (λ (n : ℕ). going (at_label c.args.left c.args.lines.items n)) c.in-Err.stop c.in-Err.ensures
