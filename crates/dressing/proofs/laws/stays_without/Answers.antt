-- The law `stays_without` is a lemma.
use Rattle.dressing.proofs.Dressed.{stays_without}
use Rattle.dressing.proofs.laws.stays_without.Goals as goal

pub returns : goal.returns
returns c = stays_without
