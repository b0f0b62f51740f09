use Rattle.transaction.specs.Members.{IsSessionOf}
use Rattle.calls.proofs.meeting.try_often.Given as goal

abbrev pub invariant-loop : goal.invariant-loop
invariant-loop l = IsSessionOf l.library l.session
