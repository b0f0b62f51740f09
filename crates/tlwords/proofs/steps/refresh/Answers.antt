use Rattle.tlwords.proofs.OpenSteps.{refreshes}
use Rattle.tlwords.proofs.steps.refresh.Goals as goal

pub load-requires-clause-rule : goal.load-requires-clause-rule
load-requires-clause-rule g c =
    refreshes g.L.Law.terms _ _ _ _ _ _ _
