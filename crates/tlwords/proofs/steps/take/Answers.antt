use Rattle.std.proofs.Common.{arith, refl}
use Rattle.tlwords.proofs.CommitSteps.{takes}
use Rattle.tlwords.proofs.steps.take.Goals as goal

pub compare_exchange-requires-clause-rule : goal.compare_exchange-requires-clause-rule
compare_exchange-requires-clause-rule g c =
    rw c.requires.said (takes g.L.Law.terms _ _ _ _ _ _ _ _ _ _ _ c.requires.seated.setting.0 c.requires.seated.setting.1 (let a =
    c.requires.cell in let b = c.requires.seated.cells in omega arith) c.requires.phase c.requires.read.0 c.requires.read.1
    c.requires.read.2 refl c.requires.room.1)
