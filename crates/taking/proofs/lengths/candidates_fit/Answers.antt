-- The law is a lemma.
use Rattle.taking.proofs.Candidates.{fits}
use Rattle.taking.proofs.lengths.candidates_fit.Goals as goal

pub returns : goal.returns
returns c = λ w k h. fits w k h
