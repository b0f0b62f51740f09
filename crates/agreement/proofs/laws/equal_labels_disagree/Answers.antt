-- The example `equal_labels_disagree` computes.
use Rattle.agreement.proofs.Samples.{dotted_declared, dotted_taken, b_taken, b_derives, not_checked}
use Rattle.agreement.proofs.laws.equal_labels_disagree.Goals as goal

pub returns : goal.returns
returns c = (dotted_declared, dotted_taken, b_taken, b_derives, not_checked)
