use Rattle.transaction.specs.Members.{IsSessionOf}
use Rattle.trials.proofs.meet_work.work.Given as goal

abbrev pub invariant-loop-commands : goal.invariant-loop-commands
invariant-loop-commands g l = IsSessionOf l.library l.session
