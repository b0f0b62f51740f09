-- The law `no_unit_of_a_fault` is a lemma.
use Rattle.mmsyntax.specs.Faults.{unit_language}
use Rattle.mmsyntax.specs.Grammar.{SpellsUnit}
use Rattle.mmtext.proofs.TextLaws.{fails_by_length}
use Rattle.statementreader.proofs.UnitLaws.{unit_grammar}
use Rattle.statementreader.proofs.laws.no_unit_of_a_fault.Goals as goal

pub returns : goal.returns
returns c = λ t. fails_by_length (unit_language t) (SpellsUnit t) (unit_grammar t)
