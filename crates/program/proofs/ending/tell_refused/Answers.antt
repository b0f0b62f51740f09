use Rattle.std.proofs.Common.{◌∷◌, refl}
use Rattle.outside.specs.Events.{says}
use Rattle.conduct.proofs.Behind.{adds_more}
use Rattle.program.proofs.ending.tell_refused.Goals as goal

pub returns : goal.returns
returns g c =
    let rest = c.put_not_done.ensures in (
      c.cut.result.0.now,
      c.cut.result.1.now,
      c.cut.ensures,
      says c.args.line.now ∷ rest.0,
      adds_more c.say.ensures rest.1,
      record { rest = rest.0; each = refl; put = rest.2; failed = refl },
    )
