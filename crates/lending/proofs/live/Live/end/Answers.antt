use Rattle.std.proofs.Common.{◌≡◌, None, sym, ap, subst, ◌∙◌}
use Rattle.tlwords.specs.Commits.{writes_kept}
use Rattle.bodystore.specs.Stages.{AreStaged}
use Rattle.bodystore.proofs.Staging.{staged_go_on, nothing_staged}
use Rattle.lending.specs.Ends.{IsLawfulWith, staged_after}
use Rattle.lending.proofs.Lending.{lending_in}
use Rattle.lending.proofs.Ended.{may_end, ended_grows, still_staged, ended_taken}
use Rattle.lending.proofs.live.Live.end.Goals.{in-Committed, in_default}
use Rattle.lending.proofs.live.Live.end.Goals as goal

pub commit-pass-requires : goal.commit-pass-requires
commit-pass-requires c =
    let s = c.self.inside in
    let note = c.args.note.now in
    let may = subst (λ x. x.run.going.over ≡ None
    → IsLawfulWith x.run (writes_kept x.run.going.slots) note) (sym c.self.view_is) c.requires in
    record { lawful = λ none. may_end (lending_in s) s.stage s.over c.self.invariant.1 note (may none) }

pub invariant_of-kit : goal.invariant_of-kit
invariant_of-kit c =
    let s = c.self.inside in
    let e = c.commit-pass.ensures in
    let k = c.commit-pass.result.0 in
    let grows = ended_grows c.args.note.now (lending_in s) k c.commit-pass.result.1 e.over e.ended in
    elim c.match-outcome.branch [
      | in-Committed w ↦ subst (AreStaged k.seen.ranges) (sym (w.stage-is ∙ w.clear.ensures)) (nothing_staged k.seen.ranges)
      | in_default w ↦ subst (AreStaged k.seen.ranges) (sym w.stage-is)
          (staged_go_on s.run.known.seen.ranges k.seen.ranges s.stage grows.2 c.self.invariant.1.staged)
    ]

pub returns-clause-staged : goal.returns-clause-staged
returns-clause-staged c =
    let stage = ap (λ x. x.run.staged) c.self.view_is in
    let ends = c.commit-pass.result.1 in
    elim c.match-outcome.branch [
      | in-Committed w ↦
          w.stage-is ∙ w.clear.ensures ∙ sym (ap (λ o. staged_after o c.args.self.run.staged) w.in-Committed.is)
      | in_default w ↦ w.stage-is ∙ stage ∙ still_staged ends c.args.self.run.staged w.in_default.not-Committed
    ]

pub returns-clause-taken : goal.returns-clause-taken
returns-clause-taken c =
    let e = c.commit-pass.ensures in
    ended_taken c.args.note.now (lending_in c.self.inside) c.commit-pass.result.0 c.commit-pass.result.1 e.over e.ended
    ∙ ap (λ x. x.run.going.known.taken) c.self.view_is
