-- The law `unit_faults` is a lemma.
use Rattle.mmtext.proofs.TextLaws.{has_one_fault}
use Rattle.mmsyntax.specs.Faults.{unit_language}
use Rattle.mmsyntax.proofs.laws.unit_faults.Goals as goal

pub returns : goal.returns
returns c = λ t. has_one_fault (unit_language t)
