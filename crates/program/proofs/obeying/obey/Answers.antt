use Rattle.std.proofs.Common.{◌++◌, ◌∷◌, [], codes, inl, inr, refl}
use Rattle.outside.specs.Events.{says}
use Rattle.conduct.proofs.Behind.{adds_more}
use Rattle.program.proofs.obeying.obey.Goals as goal

pub returns-in-Ok : goal.returns-in-Ok
returns-in-Ok g c =
    let done = c.in-Ok.ensures in
    (done.0, done.1, inl done.2)

pub returns-in-Err : goal.returns-in-Err
returns-in-Err g c =
    let done = c.in-Err.ensures in
    (done.0 ++ says (codes "no memory") ∷ [], adds_more done.1 c.refuse.ensures.said, inr (done.0, refl, done.2, c.refuse.ensures.status))
