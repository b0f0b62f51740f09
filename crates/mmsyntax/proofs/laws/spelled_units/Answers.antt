-- What is left to show of `spelled_units`.
use Rattle.mmsyntax.proofs.Canonical.{spelled_unit}
use Rattle.mmsyntax.proofs.Declarable.{spelled_where_unit}
use Rattle.mmsyntax.proofs.laws.spelled_units.Goals as goal

pub returns : goal.returns
returns c = λ t a sound. (spelled_unit t a sound, spelled_where_unit t a sound)
