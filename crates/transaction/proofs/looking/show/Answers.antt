use Rattle.std.proofs.Common.{◌≡◌, ℕ, sym, ap, subst, ◌∙◌}
use Rattle.ranges.specs.Pairs.{Pairs}
use Rattle.tlwords.specs.declared.outcome.Outcome.{Outcome as Answer}
use Rattle.tlwords.specs.declared.outcome.Outcome.TheVariants as ends
use Rattle.lawful.specs.declared.notes.Note.TheVariants.{Looked}
use Rattle.lending.specs.Ends.{IsLawfulWith, staged_after}
use Rattle.transaction.specs.Meeting.{met_at, look_met}
use Rattle.transaction.specs.Looks.{Sees}
use Rattle.transaction.proofs.Looked.{look_later, sees_read, sees_conflict}
use Rattle.transaction.proofs.looking.show.Goals as goal
use Rattle.transaction.proofs.looking.show.Goals.{in-Read, in-Conflict}

pub end-kit-requires : goal.end-kit-requires
end-kit-requires c none =
    subst (λ (writes : Pairs). IsLawfulWith c.args.live.run writes (Looked c.of.result)) (sym c.requires.blank)
    (c.requires.lawful c.of.result c.of.ensures)

pub returns-clause-later : goal.returns-clause-later
returns-clause-later c =
    let lending = c.place-place.ensures.stands in
    look_later c.args.live.run lending.0 lending.1 lending.2 (Looked c.of.result) c.end-kit.result.0.pass c.end-kit.result.1
    c.end-kit.ensures.over (λ none. c.end-kit.ensures.reading none c.requires.reading) c.end-kit.ensures.ended

pub returns-clause-sees : goal.returns-clause-sees
returns-clause-sees c =
    let run = c.args.live.run in
    let new = c.end-kit.result.0.pass in
    let lending = c.place-place.ensures.stands in
    let is_read = λ (place : ℕ) (is : c.end-kit.result.1 ≡ ends.Read place).
    sees_read run lending.0 lending.1 lending.2 (Looked c.of.result) new c.end-kit.result.1
    c.end-kit.ensures.over (λ none. c.end-kit.ensures.reading none c.requires.reading) c.end-kit.ensures.ended
    place c.args.library c.of.ensures is in
    elim c.match-ended.branch [
      | in-Read w ↦ subst (Sees run.began new) (sym w.seen-is) (is_read w.in-Read.place w.in-Read.is)
      | in-Conflict w ↦
          let found = w.in-Conflict.found in
          let met = w.look_conflict-seen.ensures ∙ ap (λ (p : ℕ). look_met (met_at p found)) c.place-place.ensures.value in
          subst (Sees run.began new) (sym (w.seen-is ∙ met))
          (sees_conflict run lending.0 lending.1 lending.2 (Looked c.of.result) new c.end-kit.result.1
          c.end-kit.ensures.over (λ none. c.end-kit.ensures.reading none c.requires.reading) c.end-kit.ensures.ended
          found _ c.requires.reading w.in-Conflict.is)
    ]

pub returns-clause-stored : goal.returns-clause-stored
returns-clause-stored c =
    let l = c.args.live.run in
    let e = c.end-kit.ensures in
    let left = λ (o : Answer) (is : c.end-kit.result.1 ≡ o).
    e.staged ∙ ap (λ (x : Answer). staged_after x l.staged) is in
    elim c.match-ended.branch [
      | in-Read w ↦ (e.taken, left _ w.in-Read.is)
      | in-Conflict w ↦ (e.taken, left _ w.in-Conflict.is)
    ]
