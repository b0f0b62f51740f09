-- The law `citations_are_put` is a lemma.
use Rattle.verifying.proofs.Verified.{citations_are_put}
use Rattle.verifying.proofs.laws.citations_are_put.Goals as goal

pub returns : goal.returns
returns c = citations_are_put
