use Rattle.std.proofs.Common.{refl}
use Rattle.commandline.proofs.order.run_in.Goals as goal

pub returns-in_err-workers-clause-none : goal.returns-in_err-workers-clause-none
returns-in_err-workers-clause-none c = λ none. c.in_err-workers.ensures.none refl
