use Rattle.workers.proofs.Whole.{still_of}
use Rattle.calls.proofs.gates.work.Goals as goal

pub returns : goal.returns
returns g c =
    still_of c.args.library.now c.args.sessions.items c.in_ok-outcomes.field-0.sessions.items c.requires
    c.in_ok-outcomes.ensures.worked.back
