-- The example `letters_count` computes.
use Rattle.std.specs.Prelude.{refl}
use Rattle.source.specs.Letters.{decoded}
use Rattle.source.proofs.laws.letters_count.Goals as goal

pub returns : goal.returns
unfolding decoded
returns c = refl
