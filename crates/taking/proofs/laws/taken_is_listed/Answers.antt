-- The example `taken_is_listed` is a lemma.
use Rattle.taking.proofs.Samples.{lists_t}
use Rattle.taking.proofs.laws.taken_is_listed.Goals as goal

pub returns : goal.returns
returns c = lists_t
