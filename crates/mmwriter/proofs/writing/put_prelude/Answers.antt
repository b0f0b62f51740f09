-- What is left to show of `put_prelude`.
use Rattle.std.proofs.Common.{subst, sym}
use Rattle.std.specs.Prelude.{All}
use Rattle.mmsyntax.specs.Preludes.{IsFloatSound}
use Rattle.mmsyntax.proofs.Canonical.{floats_sound}
use Rattle.mmwriter.proofs.writing.put_prelude.Goals as goal

pub put_floats-requires : goal.put_floats-requires
put_floats-requires c =
    subst (All (IsFloatSound c.args.prelude.now)) (sym c.floats.ensures.value) (floats_sound c.args.prelude.now c.floats.ensures.sound)
