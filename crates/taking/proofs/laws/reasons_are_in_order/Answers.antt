-- The example `reasons_are_in_order` computes.
use Rattle.std.specs.Prelude.{refl}
use Rattle.source.specs.Letters.{decoded}
use Rattle.taking.proofs.laws.reasons_are_in_order.Goals as goal

pub returns : goal.returns
unfolding decoded
returns c = (refl, refl, refl, refl, refl, refl)
