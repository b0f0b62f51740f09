use Rattle.tlwords.proofs.ReadSteps.{samples}
use Rattle.tlwords.proofs.steps.begin.Goals as goal

pub load-requires-clause-rule : goal.load-requires-clause-rule
load-requires-clause-rule g c =
    samples g.L.Law.terms _ _ _ _ _ _ _ c.requires.phase
