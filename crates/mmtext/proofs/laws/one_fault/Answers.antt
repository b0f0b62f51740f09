-- The law `one_fault` is a lemma.
use Rattle.mmtext.proofs.TextLaws.{has_one_fault}
use Rattle.mmtext.proofs.laws.one_fault.Goals as goal

pub returns : goal.returns
returns g c = λ l. has_one_fault l
