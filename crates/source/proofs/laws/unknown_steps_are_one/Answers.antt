-- The example `unknown_steps_are_one` computes.
use Rattle.std.specs.Prelude.{refl}
use Rattle.source.specs.Letters.{decoded}
use Rattle.source.proofs.laws.unknown_steps_are_one.Goals as goal

pub returns : goal.returns
unfolding decoded
returns c = (refl, refl)
