-- The law `database_faults` is a lemma.
use Rattle.mmtext.proofs.TextLaws.{has_one_fault}
use Rattle.mmsyntax.specs.Faults.{database_language}
use Rattle.mmsyntax.proofs.laws.database_faults.Goals as goal

pub returns : goal.returns
returns c = has_one_fault database_language
