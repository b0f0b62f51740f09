-- The example `for_takes_what_is_needed` computes.
use Rattle.std.specs.Prelude.{refl}
use Rattle.source.specs.Letters.{decoded}
use Rattle.choosing.proofs.laws.for_takes_what_is_needed.Goals as goal

pub returns : goal.returns
unfolding decoded
returns c = refl
