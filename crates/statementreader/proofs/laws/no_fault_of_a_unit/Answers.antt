-- The law `no_fault_of_a_unit` is a lemma.
use Rattle.mmsyntax.specs.Faults.{unit_language}
use Rattle.mmsyntax.specs.Grammar.{SpellsUnit}
use Rattle.mmtext.proofs.TextLaws.{spells_without_fault}
use Rattle.statementreader.proofs.UnitLaws.{unit_grammar}
use Rattle.statementreader.proofs.laws.no_fault_of_a_unit.Goals as goal

pub returns : goal.returns
returns c = λ t. spells_without_fault (unit_language t) (SpellsUnit t) (unit_grammar t)
