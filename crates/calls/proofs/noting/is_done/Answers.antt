use Rattle.std.proofs.Common.{refl}
use Rattle.commands.proofs.Allowed.{may_do_all}
use Rattle.calls.proofs.noting.is_done.Goals as goal

pub run-requires-clause-may : goal.run-requires-clause-may
run-requires-clause-may c = may_do_all _ _ (λ _. refl) (λ _. refl)
