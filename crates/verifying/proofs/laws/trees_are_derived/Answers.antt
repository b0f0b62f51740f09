-- The law `trees_are_derived` is a lemma.
use Rattle.verifying.proofs.Verified.{trees_are_derived}
use Rattle.verifying.proofs.laws.trees_are_derived.Goals as goal

pub returns : goal.returns
returns c = trees_are_derived
