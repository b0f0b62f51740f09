-- The law `one_database` is a lemma.
use Rattle.mmsyntax.specs.Faults.{database_language}
use Rattle.mmsyntax.specs.Grammar.{Spells}
use Rattle.mmtext.proofs.TextLaws.{spells_one}
use Rattle.mmreader.proofs.DatabaseLaws.{database_grammar}
use Rattle.mmreader.proofs.laws.one_database.Goals as goal

pub returns : goal.returns
returns c = spells_one database_language Spells database_grammar
