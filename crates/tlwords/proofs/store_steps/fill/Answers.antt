use Rattle.tlwords.proofs.StoreSteps.{fills}
use Rattle.tlwords.proofs.store_steps.fill.Goals as goal

pub store-requires-clause-rule : goal.store-requires-clause-rule
store-requires-clause-rule g c =
    fills g.L.Law.terms _ _ _ _ _ _ _ _ _ _ _ c.requires.seated.setting.1 c.requires.seated.cells c.requires.staging.0
    c.requires.staging.1 c.requires.staging.2 c.requires.staging.3
