-- The example `scopes_declare` computes.
use Rattle.std.specs.Prelude.{refl}
use Rattle.source.specs.Letters.{decoded}
use Rattle.source.proofs.laws.scopes_declare.Goals as goal

pub returns : goal.returns
unfolding decoded
returns c = (record { lawful = refl; declared = refl }, refl)
