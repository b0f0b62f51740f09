-- The law `units_are_said` is a lemma.
use Rattle.statementreader.proofs.UnitLaws.{unit_grammar}
use Rattle.statementreader.proofs.laws.units_are_said.Goals as goal

pub returns : goal.returns
returns c = λ t. unit_grammar t
