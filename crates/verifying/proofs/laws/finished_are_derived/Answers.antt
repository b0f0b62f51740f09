-- The law `finished_are_derived` is a lemma.
use Rattle.verifying.proofs.Verified.{finished_are_derived}
use Rattle.verifying.proofs.laws.finished_are_derived.Goals as goal

pub returns : goal.returns
returns c = finished_are_derived
