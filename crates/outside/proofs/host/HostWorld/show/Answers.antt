use Rattle.outside.proofs.Standing.{adds_shown}
use Rattle.outside.proofs.host.HostWorld.show.Goals as goal

pub returns-in-Ok : goal.returns-in-Ok
returns-in-Ok g c = adds_shown _ _ _ _ _ _ _ c.in-Ok.ensures.out c.in-Ok.ensures.err

pub returns-in-Err : goal.returns-in-Err
returns-in-Err g c = adds_shown _ _ _ _ _ _ _ c.in-Err.ensures.out c.in-Err.ensures.err
