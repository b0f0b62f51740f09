use Rattle.std.specs.Prelude.{is_some}
use Rattle.clap.specs.Words.{subcommand_rows_of}
use Rattle.std.proofs.Common.{ℕ, List, Bor, map, option_map}
use Rattle.program.proofs.Ordered.{ordered}
use Rattle.program.proofs.obeying.obey_matches.Goals as goal

pub returns-in-Ok-Some : goal.returns-in-Ok-Some
returns-in-Ok-Some g c =
    let done = c.follow_order.ensures in
    let order = c.in-Ok-Some.order in
    let asked = rw c.in-Ok-Some.field-0-is at c.in-Ok-Some.ensures.some in (
      done.0,
      done.1,
      ordered (is_some c.args.keys) (subcommand_rows_of c.args.matches.now) order.task (map (λ (p : Bor (List ℕ)). p.now) order.paths.items)
          (option_map (λ (s : Bor (List ℕ)). s.now) order.history) done.0 c.follow_order.result asked done.2,
    )
