-- The law `what_verifies_checks` is a lemma.
use Rattle.agreement.proofs.Agreed.{what_verifies_checks}
use Rattle.agreement.proofs.laws.what_verifies_checks.Goals as goal

pub returns : goal.returns
returns c = what_verifies_checks
