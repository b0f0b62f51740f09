use Rattle.std.proofs.Common.{map}
use Rattle.std.specs.Prelude.{is_some, string_bytes}
use Rattle.program.proofs.Runs.{done_at_first, run_none, run_words}
use Rattle.program.proofs.running.run_on.Goals as goal

pub returns-in-Ok : goal.returns-in-Ok
returns-in-Ok g c =
    let done = c.obey.ensures in (
      done.0,
      done_at_first _ _ done.0 done.1,
      _,
      c.words.ensures,
      run_words (λ ws. map string_bytes ws.items) (is_some c.args.keys) c.words.result c.in-Ok.words done.0 c.obey.result c.in-Ok.is
          (rw c.as_slice.ensures.value at done.2),
    )

pub returns-in-Err : goal.returns-in-Err
returns-in-Err g c = (
  _,
  done_at_first _ _ _ c.refuse.ensures.said,
  _,
  c.words.ensures,
  run_none (λ ws. map string_bytes ws.items) (is_some c.args.keys) c.words.result c.in-Err.trouble _ c.refuse.result c.in-Err.is
      c.unread_line.ensures c.refuse.ensures.status,
)
