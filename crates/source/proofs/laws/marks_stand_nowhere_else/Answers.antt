-- The example `marks_stand_nowhere_else` computes.
use Rattle.std.specs.Prelude.{refl}
use Rattle.source.specs.Letters.{decoded}
use Rattle.source.proofs.laws.marks_stand_nowhere_else.Goals as goal

pub returns : goal.returns
unfolding decoded
returns c = refl
