use Rattle.std.proofs.Common.{arith, subst}
use Rattle.tlwords.specs.Plays.{Looks}
use Rattle.tlwords.proofs.ReadSteps.{looks, lock_back}
use Rattle.tlwords.proofs.steps.look.Goals as goal

pub load-requires-clause-rule : goal.load-requires-clause-rule
load-requires-clause-rule g c =
    looks g.L.Law.terms _ _ _ _ _ _ _ _ c.requires.seated.setting.0 c.requires.seated.setting.1 (let a = c.requires.cell in let b =
    c.requires.seated.cells in omega arith) c.requires.phase

pub returns-clause-told : goal.returns-clause-told
returns-clause-told g c =
    subst (λ k. Looks g.L.Law.terms k c.args.seat.now.me c.load.result c.load.new.seat.me) (lock_back c.args.cell) c.load.ensures.told.0
