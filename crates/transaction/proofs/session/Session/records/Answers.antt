use Rattle.std.proofs.Common.{subst}
use Rattle.transaction.specs.Members.{IsSoundMember}
use Rattle.transaction.proofs.Standing.{stands}
use Rattle.transaction.proofs.session.Session.records.Goals as goal

pub returns-clause-stands : goal.returns-clause-stands
returns-clause-stands c = subst IsSoundMember c.self.view_is (stands _ c.self.invariant.1)
