use Rattle.std.proofs.Common.{subst}
use Rattle.lending.specs.Lent.{IsLending}
use Rattle.lending.proofs.live.Live.place.Goals as goal

pub returns-clause-stands : goal.returns-clause-stands
returns-clause-stands c =
    let s = c.self.inside in
    subst (λ x. IsLending x.run) c.self.view_is (s.stage, s.over, c.self.invariant.1)
