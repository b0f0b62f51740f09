use Rattle.tlwords.proofs.CommitSteps.{draws}
use Rattle.tlwords.proofs.steps.draw.Goals as goal

pub fetch_add-requires-clause-rule : goal.fetch_add-requires-clause-rule
fetch_add-requires-clause-rule g c =
    rw c.requires.said (draws g.L.Law.terms _ _ _ _ _ _ _ _ _ c.requires.seated.setting.1 c.requires.phase (c.requires.lawful _
    c.requires.seated.setting.1) c.requires.writes c.requires.room)
