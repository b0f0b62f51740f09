use Rattle.contention.proofs.Meeting.{apart_is_no_cause}
use Rattle.contention.proofs.laws.apart_is_no_cause.Goals as goal

pub returns : goal.returns
returns c = apart_is_no_cause
