-- The law `parts_verify` is a lemma.
use Rattle.verifying.proofs.Verified.{parts_verify}
use Rattle.verifying.proofs.laws.parts_verify.Goals as goal

pub returns : goal.returns
returns c = parts_verify
