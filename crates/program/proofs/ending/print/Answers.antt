use Rattle.std.proofs.Common.{◌∷◌, Some, refl}
use Rattle.outside.specs.Events.{prints}
use Rattle.conduct.specs.declared.manner.Manner.TheVariants.{Full}
use Rattle.conduct.specs.Telling.{unprinted_said}
use Rattle.conduct.proofs.Behind.{adds_more}
use Rattle.program.proofs.ending.print.Goals as goal

pub returns-in-Err : goal.returns-in-Err
returns-in-Err g c =
    let why = c.in-Err.why in (
      prints c.args.text.now (Some why) ∷ unprinted_said Full why,
      adds_more c.in-Err.ensures c.tell_unprinted.ensures.said,
      (why, refl, c.tell_unprinted.ensures.status),
    )
