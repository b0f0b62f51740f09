use Rattle.tlwords.proofs.OpenSteps.{recalls}
use Rattle.tlwords.proofs.steps.recall.Goals as goal

pub load-requires-clause-rule : goal.load-requires-clause-rule
load-requires-clause-rule g c =
    rw c.requires.said (recalls g.L.Law.terms _ _ _ _ _ _ _ _ _ c.requires.seated.setting.1 (c.requires.lawful _
    c.requires.seated.setting.1))
