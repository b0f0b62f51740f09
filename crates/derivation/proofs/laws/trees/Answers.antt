use Rattle.derivation.proofs.OneTree.{tree-is-one}
use Rattle.derivation.proofs.laws.trees.Goals as goal

pub returns : goal.returns
returns c = tree-is-one
