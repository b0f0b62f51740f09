use Rattle.std.specs.Prelude.{is_some}
use Rattle.clap.specs.Words.{subcommand_rows_of}
use Rattle.std.proofs.Common.{ℕ, List, Bor, map, option_map}
use Rattle.program.proofs.Ordered.{take_ordered}
use Rattle.program.proofs.obeying.obey_take.Goals as goal

pub returns-in-Ok-Some : goal.returns-in-Ok-Some
returns-in-Ok-Some g c =
    let done = c.follow_take.ensures in
    let order = c.in-Ok-Some.order in
    let asked = rw c.in-Ok-Some.field-0-is at c.in-Ok-Some.ensures.some in (
      done.0,
      done.1,
      take_ordered (is_some c.args.keys) (subcommand_rows_of c.args.matches.now) order.path.now
          (map (λ (l : Bor (List ℕ)). l.now) order.labels.items)
          (option_map (λ (s : Bor (List ℕ)). s.now) order.from) (option_map (λ (s : Bor (List ℕ)). s.now) order.to)
          done.0 c.follow_take.result asked done.2,
    )
