-- The law `no_database_of_a_fault` is a lemma.
use Rattle.mmsyntax.specs.Faults.{database_language}
use Rattle.mmsyntax.specs.Grammar.{Spells}
use Rattle.mmtext.proofs.TextLaws.{fails_by_length}
use Rattle.mmreader.proofs.DatabaseLaws.{database_grammar}
use Rattle.mmreader.proofs.laws.no_database_of_a_fault.Goals as goal

pub returns : goal.returns
returns c = fails_by_length database_language Spells database_grammar
