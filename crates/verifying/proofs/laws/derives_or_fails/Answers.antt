-- The law `derives_or_fails` is a lemma.
use Rattle.verifying.proofs.Faulty.{derives_or_fails}
use Rattle.verifying.proofs.laws.derives_or_fails.Goals as goal

pub returns : goal.returns
returns c = derives_or_fails
