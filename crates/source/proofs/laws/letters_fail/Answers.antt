-- The example `letters_fail` computes.
use Rattle.std.specs.Prelude.{refl}
use Rattle.source.specs.Letters.{decoded}
use Rattle.source.proofs.laws.letters_fail.Goals as goal

pub returns : goal.returns
unfolding decoded
returns c = refl
