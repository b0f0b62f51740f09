-- The law `proofs_agree` is a lemma.
use Rattle.agreement.proofs.Agreed.{proofs_agree}
use Rattle.agreement.proofs.laws.proofs_agree.Goals as goal

pub returns : goal.returns
returns c = proofs_agree
