use Rattle.outside.proofs.Standing.{adds_ask}
use Rattle.outside.proofs.host.HostWorld.is_plain.Goals as goal

pub returns : goal.returns
returns g c = adds_ask _ _ _ c.is_plain.ensures
