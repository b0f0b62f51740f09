use Rattle.std.proofs.Common.{◌∷◌, refl}
use Rattle.outside.specs.Events.{notes}
use Rattle.conduct.proofs.Behind.{adds_more}
use Rattle.program.specs.Summaries.{all_noted}
use Rattle.program.proofs.summary.note_done.Goals as goal

pub returns : goal.returns
returns g c =
    let account = c.args.account.now in
    let first = c.note_summary.ensures in
    let mentions = rw c.as_slice.ensures.value at c.note_all.ensures in (
      notes first.0 ∷ all_noted account.mentions.items,
      adds_more first.1 mentions,
      record { line = first.0; is_summary = first.2; each = refl },
    )
