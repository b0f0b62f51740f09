-- The law `proof_bodies_are_one` is a lemma.
use Rattle.bodystore.proofs.One.{proof_one}
use Rattle.bodystore.proofs.laws.proof_bodies_are_one.Goals as goal

pub returns : goal.returns
returns c = proof_one
