-- What is left to show of `declare_prelude`.
use Rattle.mmsyntax.proofs.Declarable.{sound_where_apart}
use Rattle.drafts.proofs.symbols.declare_prelude.Goals as goal

pub new-requires : goal.new-requires
new-requires c = (sound_where_apart c.declare_floats.new.symbols).1 c.in_ok-declare_floats.ensures.sound
