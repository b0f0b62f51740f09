-- The example `marks_stand_there` computes.
use Rattle.std.specs.Prelude.{refl}
use Rattle.source.specs.Letters.{decoded}
use Rattle.source.proofs.laws.marks_stand_there.Goals as goal

pub returns : goal.returns
unfolding decoded
returns c = refl
