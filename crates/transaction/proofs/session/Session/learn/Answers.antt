use Rattle.std.proofs.Common.{◌≡◌, Bool, Option, Some, refl, sym, ap, subst, ◌∙◌}
use Rattle.bodystore.proofs.Staging.{staged_go_on}
use Rattle.bodystore.specs.Stages.{Staged}
use Rattle.lending.specs.Lent.{Pass, Carried}
use Rattle.transaction.specs.Members.{Member, IsMember}
use Rattle.transaction.specs.Looks.{SessionsLearn}
use Rattle.transaction.proofs.Staying.{session_with}
use Rattle.transaction.proofs.Learning.{own_stays, other_stays, session_learns}
use Rattle.transaction.proofs.session.Session.learn.Goals as goal

-- what a run would take along
abbrev carried : Pass → Staged → Bool → Carried
carried pass stage lacked = record { pass = pass; staged = stage; lacked_room = lacked }

pub invariant_of-kit : goal.invariant_of-kit
invariant_of-kit c =
    staged_go_on c.kit.inside.pass.seen.ranges c.learn.new.pass.seen.ranges c.kit.inside.stage c.learn.ensures.own.2 c.kit.invariant

pub invariant_of-others : goal.invariant_of-others
invariant_of-others c =
    staged_go_on c.others.inside.pass.seen.ranges c.learn.new.other.seen.ranges c.others.inside.stage c.learn.ensures.other.2
    c.others.invariant

pub invariant_of-self : goal.invariant_of-self
invariant_of-self c =
    let own : Option Carried → Member = session_with c.self.inside.given.value c.self.inside.records.items in
    let others : Option Carried → Member = session_with c.other.inside.given.value c.other.inside.records.items in
    let first = carried c.kit.inside.pass c.kit.inside.stage c.kit.inside.lacked_room.value in
    let second = carried c.others.inside.pass c.others.inside.stage c.others.inside.lacked_room.value in
    let kit : c.self.inside.kit ≡ Some first =
    sym c.take.ensures.value ∙ c.in-Some.is ∙ ap (λ (k : Carried). Some k) (sym c.kit.view_is) in
    let other : c.other.inside.kit ≡ Some second =
    sym c.take-2.ensures.value ∙ c.in-Some-take.is ∙ ap (λ (k : Carried). Some k) (sym c.others.view_is) in (
      refl,
      own_stays (own (Some first))
          (others (Some second)) c.learn.new.pass c.learn.new.other
          (subst (λ (o : Option Carried). IsMember (own o)) kit c.self.invariant.1)
          (subst (λ (o : Option Carried). IsMember (others o)) other c.other.invariant.1) c.learn.ensures,
    )

pub invariant_of-other : goal.invariant_of-other
invariant_of-other c =
    let own : Option Carried → Member = session_with c.self.inside.given.value c.self.inside.records.items in
    let others : Option Carried → Member = session_with c.other.inside.given.value c.other.inside.records.items in
    let first = carried c.kit.inside.pass c.kit.inside.stage c.kit.inside.lacked_room.value in
    let second = carried c.others.inside.pass c.others.inside.stage c.others.inside.lacked_room.value in
    let kit : c.self.inside.kit ≡ Some first =
    sym c.take.ensures.value ∙ c.in-Some.is ∙ ap (λ (k : Carried). Some k) (sym c.kit.view_is) in
    let other : c.other.inside.kit ≡ Some second =
    sym c.take-2.ensures.value ∙ c.in-Some-take.is ∙ ap (λ (k : Carried). Some k) (sym c.others.view_is) in (
      refl,
      other_stays (own (Some first))
          (others (Some second)) c.learn.new.pass c.learn.new.other
          (subst (λ (o : Option Carried). IsMember (own o)) kit c.self.invariant.1)
          (subst (λ (o : Option Carried). IsMember (others o)) other c.other.invariant.1) c.learn.ensures,
    )

pub returns : goal.returns
returns c =
    let own : Option Carried → Member = session_with c.self.inside.given.value c.self.inside.records.items in
    let others : Option Carried → Member = session_with c.other.inside.given.value c.other.inside.records.items in
    let first = carried c.kit.inside.pass c.kit.inside.stage c.kit.inside.lacked_room.value in
    let second = carried c.others.inside.pass c.others.inside.stage c.others.inside.lacked_room.value in
    let kit : c.self.inside.kit ≡ Some first =
    sym c.take.ensures.value ∙ c.in-Some.is ∙ ap (λ (k : Carried). Some k) (sym c.kit.view_is) in
    let other : c.other.inside.kit ≡ Some second =
    sym c.take-2.ensures.value ∙ c.in-Some-take.is ∙ ap (λ (k : Carried). Some k) (sym c.others.view_is) in
    let own_new = own (Some (carried c.learn.new.pass c.kit.inside.stage c.kit.inside.lacked_room.value)) in
    let others_new = others (Some (carried c.learn.new.other c.others.inside.stage c.others.inside.lacked_room.value)) in
    subst (λ (m : Member). SessionsLearn m c.args.other.now own_new others_new) (ap own (sym kit) ∙ c.self.view_is)
    (subst (λ (o : Member). SessionsLearn (own (Some first)) o own_new others_new)
    (ap others (sym other)
    ∙ c.other.view_is)
    (session_learns (own (Some first))
    (others (Some second)) c.learn.new.pass c.learn.new.other
    (subst (λ (o : Option Carried). IsMember (own o)) kit c.self.invariant.1)
    (subst (λ (o : Option Carried). IsMember (others o)) other c.other.invariant.1) c.learn.ensures))
