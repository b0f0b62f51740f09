-- The law is a lemma.
use Rattle.taking.proofs.LongListings.{proof_long}
use Rattle.taking.proofs.lengths.proofs_are_as_long.Goals as goal

pub returns : goal.returns
returns c = λ m earlier x a listed. proof_long m earlier x a listed
