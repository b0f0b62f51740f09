use Rattle.contention.proofs.Locking.{locks_meet}
use Rattle.contention.proofs.laws.locks_meet.Goals as goal

pub returns : goal.returns
returns c = locks_meet
