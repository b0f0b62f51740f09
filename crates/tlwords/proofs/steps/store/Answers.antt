use Rattle.std.proofs.Common.{arith}
use Rattle.tlwords.proofs.CommitSteps.{stores}
use Rattle.tlwords.proofs.steps.store.Goals as goal

pub store-requires-clause-rule : goal.store-requires-clause-rule
store-requires-clause-rule g c =
    stores g.L.Law.terms _ _ _ _ _ _ _ _ _ _ _ _ c.requires.seated.setting.1 (let a = c.requires.cell in let b =
    c.requires.seated.cells in omega arith) c.requires.phase.1 c.requires.held.1 c.requires.held.2
