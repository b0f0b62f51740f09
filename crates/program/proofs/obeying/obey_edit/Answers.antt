use Rattle.std.specs.Prelude.{is_some}
use Rattle.clap.specs.Words.{subcommand_rows_of}
use Rattle.std.proofs.Common.{ℕ, List, Bor, Ok, map}
use Rattle.std.specs.declared.alloc.AllocError.{AllocError}
use Rattle.program.proofs.Ordered.{edit_ordered}
use Rattle.program.proofs.obeying.obey_edit.Goals as goal

pub returns-in-Ok-Some : goal.returns-in-Ok-Some
returns-in-Ok-Some g c =
    let done = c.follow_edit.ensures in
    let order = c.in-Ok-Some.order in
    let asked = rw c.in-Ok-Some.field-0-is at c.in-Ok-Some.ensures.some in (
      done.0,
      done.1,
      edit_ordered {E = AllocError} (is_some c.args.keys) (subcommand_rows_of c.args.matches.now)
          (map (λ (p : Bor (List ℕ)). p.now) order.paths.items) order.workers order.room order.outputs order.allowed done.0
          (Ok c.follow_edit.result) asked done.2,
    )
