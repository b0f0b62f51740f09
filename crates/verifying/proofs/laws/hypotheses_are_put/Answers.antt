-- The law `hypotheses_are_put` is a lemma.
use Rattle.verifying.proofs.Verified.{hypotheses_are_put}
use Rattle.verifying.proofs.laws.hypotheses_are_put.Goals as goal

pub returns : goal.returns
returns c = hypotheses_are_put
