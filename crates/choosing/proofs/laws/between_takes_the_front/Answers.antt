-- The example `between_takes_the_front` computes.
use Rattle.std.specs.Prelude.{refl}
use Rattle.source.specs.Letters.{decoded}
use Rattle.choosing.proofs.laws.between_takes_the_front.Goals as goal

pub returns : goal.returns
unfolding decoded
returns c = (refl, refl)
