use Rattle.std.proofs.Common.{inl}
use Rattle.conduct.proofs.take.answer_source.Goals as goal

pub returns-in-Ok : goal.returns-in-Ok
returns-in-Ok g c =
    let told = c.tell_taken.ensures in
    (told.0, told.1, inl (c.in-Ok.told, c.in-Ok.ensures, told.2))
