-- The law `databases_are_said` is a lemma.
use Rattle.mmreader.proofs.DatabaseLaws.{database_grammar}
use Rattle.mmreader.proofs.laws.databases_are_said.Goals as goal

pub returns : goal.returns
returns c = database_grammar
