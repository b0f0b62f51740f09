use Rattle.std.proofs.Common.{◌∷◌, Some, inr, refl}
use Rattle.outside.specs.Events.{shows}
use Rattle.conduct.specs.declared.manner.Manner.TheVariants.{Full}
use Rattle.conduct.specs.Telling.{unprinted_said}
use Rattle.conduct.proofs.Behind.{adds_more}
use Rattle.program.proofs.obeying.show_usage.Goals as goal

pub returns-in-Err : goal.returns-in-Err
returns-in-Err g c =
    let why = c.in-Err.why in (
      shows c.args.error.now (Some why) ∷ unprinted_said Full why,
      adds_more c.in-Err.ensures c.tell_unprinted.ensures.said,
      inr (why, refl, c.tell_unprinted.ensures.status),
    )
