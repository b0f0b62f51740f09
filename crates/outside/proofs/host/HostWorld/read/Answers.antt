use Rattle.std.proofs.Common.{ℕ, List, Bor, ap, option_map}
use Rattle.outside.proofs.Standing.{adds_input, adds_reading}
use Rattle.outside.proofs.host.HostWorld.read.Goals as goal

pub returns-in-Some : goal.returns-in-Some
returns-in-Some g c =
    rw (ap (option_map (λ (p : Bor (List ℕ)). p.now)) c.in-Some.is)
    (adds_reading _ c.in-Some.path.now c.read_whole.result c.read_whole.ensures.whole c.read_whole.ensures.refused)

pub returns-in-None : goal.returns-in-None
returns-in-None g c =
    rw (ap (option_map (λ (p : Bor (List ℕ)). p.now)) c.in-None.is)
    (adds_input _ c.read_input.result c.read_input.ensures.whole c.read_input.ensures.refused)
