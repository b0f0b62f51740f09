use Rattle.contention.proofs.Locking.{apart_locks_none}
use Rattle.contention.proofs.laws.apart_locks_none.Goals as goal

pub returns : goal.returns
returns c = apart_locks_none
