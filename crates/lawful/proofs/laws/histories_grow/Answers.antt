use Rattle.lawful.proofs.Entries.{histories_grow}
use Rattle.lawful.proofs.laws.histories_grow.Goals as goal

pub returns : goal.returns
returns c = histories_grow
