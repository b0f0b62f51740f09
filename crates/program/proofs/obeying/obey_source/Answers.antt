use Rattle.std.specs.Prelude.{is_some}
use Rattle.clap.specs.Words.{subcommand_rows_of}
use Rattle.program.proofs.Ordered.{verify_ordered}
use Rattle.program.proofs.obeying.obey_source.Goals as goal

pub returns-in-Some : goal.returns-in-Some
returns-in-Some g c =
    let done = c.follow_verify.ensures in
    let order = c.in-Some.order in (
      done.0,
      done.1,
      verify_ordered (is_some c.args.keys) (subcommand_rows_of c.args.matches.now) order.path.now order.workers done.0
          c.follow_verify.result c.in-Some.ensures.some done.2,
    )
