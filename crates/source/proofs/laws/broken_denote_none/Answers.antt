-- The example `broken_denote_none` computes.
use Rattle.std.specs.Prelude.{refl}
use Rattle.source.specs.Letters.{decoded}
use Rattle.source.proofs.laws.broken_denote_none.Goals as goal

pub returns : goal.returns
unfolding decoded
returns c = refl
