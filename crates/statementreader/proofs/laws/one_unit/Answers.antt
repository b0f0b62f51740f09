-- The law `one_unit` is a lemma.
use Rattle.mmsyntax.specs.Faults.{unit_language}
use Rattle.mmsyntax.specs.Grammar.{SpellsUnit}
use Rattle.mmtext.proofs.TextLaws.{spells_one}
use Rattle.statementreader.proofs.UnitLaws.{unit_grammar}
use Rattle.statementreader.proofs.laws.one_unit.Goals as goal

pub returns : goal.returns
returns c = λ t. spells_one (unit_language t) (SpellsUnit t) (unit_grammar t)
