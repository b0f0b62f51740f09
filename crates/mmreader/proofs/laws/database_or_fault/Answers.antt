-- The law `database_or_fault` is a lemma.
use Rattle.mmsyntax.specs.Faults.{database_language}
use Rattle.mmsyntax.specs.Grammar.{Spells}
use Rattle.mmtext.proofs.TextLaws.{spells_or_fails}
use Rattle.mmreader.proofs.DatabaseLaws.{database_grammar}
use Rattle.mmreader.proofs.laws.database_or_fault.Goals as goal

pub returns : goal.returns
returns c = spells_or_fails database_language Spells database_grammar
