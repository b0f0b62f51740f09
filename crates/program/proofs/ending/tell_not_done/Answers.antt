use Rattle.std.proofs.Common.{◌∷◌, refl}
use Rattle.outside.specs.Events.{says}
use Rattle.program.specs.Endings.{line_of}
use Rattle.conduct.proofs.Behind.{adds_more}
use Rattle.program.proofs.ending.tell_not_done.Goals as goal

pub returns : goal.returns
returns g c =
    let rest = rw c.said_of.ensures at (rw c.reason_of.ensures at c.put_not_done.ensures) in (
      says (line_of c.args.why) ∷ rest.0,
      adds_more c.say_not_done.ensures rest.1,
      record { rest = rest.0; each = refl; put = rest.2; failed = refl },
    )
