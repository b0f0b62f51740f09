use Rattle.std.proofs.Common.{None, Some}
use Rattle.std.specs.IoError.{error_kind}
use Rattle.outside.proofs.Standing.{adds_print}
use Rattle.outside.proofs.host.HostWorld.print.Goals as goal

pub returns-in-Ok : goal.returns-in-Ok
returns-in-Ok g c = adds_print _ _ _ _ _ c.args.text.now None c.in-Ok.ensures.put c.in-Ok.ensures.lasts c.in-Ok.ensures.other

pub returns-in-Err : goal.returns-in-Err
returns-in-Err g c =
    let put = adds_print _ _ _ _ _ c.args.text.now (Some (error_kind c.in-Err.error)) c.in-Err.ensures.put c.in-Err.ensures.lasts
    c.in-Err.ensures.other in
    rw c.reason_of.ensures put
