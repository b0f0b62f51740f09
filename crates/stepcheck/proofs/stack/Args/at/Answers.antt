use Rattle.std.proofs.Common.{refl}
use Rattle.stepcheck.proofs.Spans.{shown-at}
use Rattle.stepcheck.proofs.stack.Args.at.Goals as goal

pub returns-in-Own : goal.returns-in-Own
returns-in-Own c =
    shown-at c.self.inside.symbols.now c.self.inside.entries.now c.args.self.now c.args.place _ _ _ c.self.view_is c.requires c.in-Own.is
    refl

pub returns-in-Lent : goal.returns-in-Lent
returns-in-Lent c =
    shown-at c.self.inside.symbols.now c.self.inside.entries.now c.args.self.now c.args.place _ _ _ c.self.view_is c.requires c.in-Lent.is
    refl
