-- The example `two_agree` computes, but for the proof in the library, which is by the law.
use Rattle.agreement.proofs.Samples.{two_declared, two_taken, two_differ, t_taken, t_derives, t_proves}
use Rattle.agreement.proofs.laws.two_agree.Goals as goal

pub returns : goal.returns
returns c = (two_declared, two_taken, two_differ, t_taken, t_derives, t_proves)
