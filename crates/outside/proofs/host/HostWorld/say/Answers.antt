use Rattle.outside.proofs.Standing.{adds_line}
use Rattle.outside.proofs.host.HostWorld.say.Goals as goal

pub returns : goal.returns
returns g c = adds_line _ _ _ _ _ c.args.line.now _ c.say.ensures.put c.say.ensures.lasts c.say.ensures.other
