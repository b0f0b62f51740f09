-- The law `sound_preludes` is a lemma.
use Rattle.mmsyntax.proofs.Declarable.{sound_where_apart}
use Rattle.mmsyntax.proofs.laws.sound_preludes.Goals as goal

pub returns : goal.returns
returns c = λ t. sound_where_apart t
