use Rattle.std.specs.Prelude.{is_some}
use Rattle.clap.specs.Words.{subcommand_rows_of}
use Rattle.program.proofs.Ordered.{give_ordered}
use Rattle.program.proofs.obeying.obey_other.Goals as goal

pub returns-in-Some : goal.returns-in-Some
returns-in-Some g c =
    let done = c.follow_give.ensures in
    let order = c.in-Some.order in (
      done.0,
      done.1,
      give_ordered (is_some c.args.keys) (subcommand_rows_of c.args.matches.now) order.source.now order.library.now order.history.now done.0
          c.follow_give.result
          c.in-Some.ensures.some done.2,
    )
