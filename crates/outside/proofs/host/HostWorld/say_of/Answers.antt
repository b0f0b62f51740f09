use Rattle.outside.proofs.Standing.{adds_line}
use Rattle.outside.proofs.host.HostWorld.say_of.Goals as goal

pub returns : goal.returns
returns g c = adds_line _ _ _ _ _ _ _ c.say_of.ensures.put c.say_of.ensures.lasts c.say_of.ensures.other
