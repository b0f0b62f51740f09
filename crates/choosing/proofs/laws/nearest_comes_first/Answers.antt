-- The example `nearest_comes_first` computes.
use Rattle.std.specs.Prelude.{refl}
use Rattle.source.specs.Letters.{decoded}
use Rattle.choosing.proofs.laws.nearest_comes_first.Goals as goal

pub returns : goal.returns
unfolding decoded
returns c = (refl, refl, refl, refl)
