-- The law `statement_bodies_are_one` is a lemma.
use Rattle.bodystore.proofs.One.{statement_one}
use Rattle.bodystore.proofs.laws.statement_bodies_are_one.Goals as goal

pub returns : goal.returns
returns c = statement_one
