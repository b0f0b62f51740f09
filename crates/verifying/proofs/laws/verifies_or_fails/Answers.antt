-- The law `verifies_or_fails` is a lemma.
use Rattle.verifying.proofs.Faulty.{verifies_or_fails}
use Rattle.verifying.proofs.laws.verifies_or_fails.Goals as goal

pub returns : goal.returns
returns c = verifies_or_fails
