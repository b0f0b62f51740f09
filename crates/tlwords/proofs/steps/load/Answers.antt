use Rattle.std.proofs.Common.{arith}
use Rattle.tlwords.proofs.ReadSteps.{loads}
use Rattle.tlwords.proofs.steps.load.Goals as goal

pub load-requires-clause-rule : goal.load-requires-clause-rule
load-requires-clause-rule g c =
    loads g.L.Law.terms _ _ _ _ _ _ _ _ _ c.requires.seated.setting.0 c.requires.seated.setting.1 (let a = c.requires.cell in let b =
    c.requires.seated.cells in omega arith) c.requires.phase
