-- The law `no_fault_of_a_database` is a lemma.
use Rattle.mmsyntax.specs.Faults.{database_language}
use Rattle.mmsyntax.specs.Grammar.{Spells}
use Rattle.mmtext.proofs.TextLaws.{spells_without_fault}
use Rattle.mmreader.proofs.DatabaseLaws.{database_grammar}
use Rattle.mmreader.proofs.laws.no_fault_of_a_database.Goals as goal

pub returns : goal.returns
returns c = spells_without_fault database_language Spells database_grammar
