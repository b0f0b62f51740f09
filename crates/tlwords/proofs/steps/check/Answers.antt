use Rattle.std.proofs.Common.{arith, subst}
use Rattle.tlwords.specs.Plays.{Checks}
use Rattle.tlwords.proofs.CommitSteps.{checks}
use Rattle.tlwords.proofs.ReadSteps.{lock_back}
use Rattle.tlwords.proofs.steps.check.Goals as goal

pub load-requires-clause-rule : goal.load-requires-clause-rule
load-requires-clause-rule g c =
    checks g.L.Law.terms _ _ _ _ _ _ _ _ _ _ _ c.requires.seated.setting.1 (let a = c.requires.cell in let b = c.requires.seated.cells
    in omega arith) c.requires.phase.2 c.requires.phase.3 c.requires.phase.4 c.requires.read.0 c.requires.read.1

pub returns-clause-told : goal.returns-clause-told
returns-clause-told g c =
    subst (λ k. Checks g.L.Law.terms k c.args.seat.now.me c.load.result c.load.new.seat.me) (lock_back c.args.cell) c.load.ensures.told.0
