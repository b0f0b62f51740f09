use Rattle.std.proofs.Common.{◌∷◌, Some, inr, refl}
use Rattle.outside.specs.Events.{prints}
use Rattle.conduct.specs.Telling.{unprinted_said}
use Rattle.conduct.proofs.Behind.{adds_more}
use Rattle.conduct.proofs.telling.print_with.Goals as goal

pub returns-in-Err : goal.returns-in-Err
returns-in-Err g c =
    let why = c.in-Err.why in (
      prints c.args.out.now (Some why) ∷ unprinted_said c.args.manner why,
      adds_more c.in-Err.ensures c.tell_unprinted.ensures.said,
      inr (why, refl, c.tell_unprinted.ensures.status),
    )
