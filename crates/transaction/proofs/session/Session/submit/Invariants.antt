use Rattle.transaction.proofs.Trying.{Tried}
use Rattle.transaction.proofs.session.Session.submit.Given as goal

abbrev pub invariant-loop : goal.invariant-loop
invariant-loop g l = Tried l.fn.commands l.fn.self l.self
