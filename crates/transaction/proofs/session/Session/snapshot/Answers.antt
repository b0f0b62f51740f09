use Rattle.std.proofs.Common.{◌≡◌, Option, Some, refl, sym, ap, subst, ◌∙◌}
use Rattle.lending.specs.Lent.{Carried}
use Rattle.transaction.specs.Members.{Member, IsMember}
use Rattle.transaction.specs.Looks.{TakesLook}
use Rattle.transaction.proofs.Staying.{session_with}
use Rattle.transaction.proofs.Looked.{looker_stays, session_looks}
use Rattle.transaction.proofs.session.Session.snapshot.Goals as goal

pub invariant_of-self : goal.invariant_of-self
invariant_of-self c =
    let of : Option Carried → Member = session_with c.self.inside.given.value c.self.inside.records.items in
    let kit : c.self.inside.kit ≡ Some c.in-Some.kit = sym c.take.ensures.value ∙ c.in-Some.is in
    let is : IsMember (of (Some c.in-Some.kit)) = subst (λ (o : Option Carried). IsMember (of o)) kit c.self.invariant.1 in (
      refl,
      looker_stays (of (Some c.in-Some.kit)) c.look-kit.result.0 c.look-kit.result.1 is c.look-kit.ensures.later
          c.look-kit.ensures.sees,
    )

pub returns : goal.returns
returns c =
    let of : Option Carried → Member = session_with c.self.inside.given.value c.self.inside.records.items in
    let kit : c.self.inside.kit ≡ Some c.in-Some.kit = sym c.take.ensures.value ∙ c.in-Some.is in
    let is : IsMember (of (Some c.in-Some.kit)) = subst (λ (o : Option Carried). IsMember (of o)) kit c.self.invariant.1 in
    subst (λ (m : Member). TakesLook m (of (Some c.look-kit.result.0)) c.look-kit.result.1) (ap of (sym kit) ∙ c.self.view_is)
    (session_looks (of (Some c.in-Some.kit)) c.look-kit.result.0 c.look-kit.result.1 is c.look-kit.ensures.later c.look-kit.ensures.sees
    c.look-kit.ensures.stored)
