-- The law `faults_are_too_long` is a lemma.
use Rattle.agreement.proofs.Agreed.{faults_are_too_long}
use Rattle.agreement.proofs.laws.faults_are_too_long.Goals as goal

pub returns : goal.returns
returns c = faults_are_too_long
