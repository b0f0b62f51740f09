-- The example `marks_denote` computes.
use Rattle.std.specs.Prelude.{refl}
use Rattle.source.specs.Letters.{decoded}
use Rattle.source.proofs.laws.marks_denote.Goals as goal

pub returns : goal.returns
unfolding decoded
returns c = refl
