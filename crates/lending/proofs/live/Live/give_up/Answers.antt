use Rattle.std.proofs.Common.{sym, ap, subst, ◌∙◌}
use Rattle.lending.specs.Ends.{IsGivenUp}
use Rattle.lending.proofs.Lending.{lending_in}
use Rattle.lending.proofs.live.Live.give_up.Goals.{in-Some, in-None, in-None-2}
use Rattle.lending.proofs.live.Live.give_up.Goals as goal

pub returns-clause-kit : goal.returns-clause-kit
returns-clause-kit c = c.leave-pass.ensures ∙ ap (λ x. x.run.going.known) c.self.view_is

pub returns-clause-why : goal.returns-clause-why
returns-clause-why c =
    let l = lending_in c.self.inside in
    let over = c.self.invariant.1.over_is in
    subst (λ x. IsGivenUp x.run c.match-over.why) c.self.view_is
    (elim c.match-over.branch [
      | in-Some w ↦ subst (IsGivenUp l) (sym w.why-is) (over ∙ w.in-Some.is)
      | in-None w ↦ subst (IsGivenUp l) (sym w.why-is) (over ∙ w.in-None.is, w.if-full.true)
      | in-None-2 w ↦ subst (IsGivenUp l) (sym w.why-is) (over ∙ w.in-None.is, w.if-full.false)
    ])

pub returns-clause-staged : goal.returns-clause-staged
returns-clause-staged c = ap (λ x. x.run.staged) c.self.view_is
