use Rattle.contention.proofs.Meeting.{conflicts_meet}
use Rattle.contention.proofs.laws.conflicts_meet.Goals as goal

pub returns : goal.returns
returns c = conflicts_meet
