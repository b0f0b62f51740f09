use Rattle.transaction.specs.Members.{IsSessionOf}
use Rattle.trials.proofs.meet_work.settle.Given as goal

abbrev pub invariant-loop : goal.invariant-loop
invariant-loop g l = IsSessionOf l.library l.session
