use Rattle.std.proofs.Common.{subst}
use Rattle.lending.specs.Lent.{Lends}
use Rattle.transaction.specs.Members.{Home}
use Rattle.transaction.proofs.running.Library.begin.Goals as goal

pub returns : goal.returns
returns c =
    subst (λ (h : Home). Lends h.given c.args.kit c.args.mode c.args.may_stage c.begin.result.run) c.self.view_is c.begin.ensures
