-- The law `fitting_are_small` is a lemma.
use Rattle.bodystore.proofs.Small.{fitting_small}
use Rattle.bodystore.proofs.laws.fitting_are_small.Goals as goal

pub returns : goal.returns
returns c = fitting_small
