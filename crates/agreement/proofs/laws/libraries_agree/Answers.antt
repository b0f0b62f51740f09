-- The law `libraries_agree` is a lemma.
use Rattle.agreement.proofs.Agreed.{libraries_agree}
use Rattle.agreement.proofs.laws.libraries_agree.Goals as goal

pub returns : goal.returns
returns c = libraries_agree
