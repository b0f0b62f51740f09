-- The law `unit_or_fault` is a lemma.
use Rattle.mmsyntax.specs.Faults.{unit_language}
use Rattle.mmsyntax.specs.Grammar.{SpellsUnit}
use Rattle.mmtext.proofs.TextLaws.{spells_or_fails}
use Rattle.statementreader.proofs.UnitLaws.{unit_grammar}
use Rattle.statementreader.proofs.laws.unit_or_fault.Goals as goal

pub returns : goal.returns
returns c = λ t. spells_or_fails (unit_language t) (SpellsUnit t) (unit_grammar t)
