use Rattle.std.proofs.Common.{◌≡◌, None, ap, sym, subst, length, ◌∙◌}
use Rattle.tlwords.specs.Known.{known_of, going_of}
use Rattle.tlwords.specs.Calls.{IsLawful, Ends}
use Rattle.tlwords.proofs.Knows.{concluded_home, left_fits, rests_as}
use Rattle.tlwords.proofs.runs.Run.commit.Goals as goal
use Rattle.tlwords.proofs.runs.Run.commit.Goals.{in-Some, in-None}

pub conclude-outcome-requires-clause-lawful : goal.conclude-outcome-requires-clause-lawful
conclude-outcome-requires-clause-lawful g c =
    subst (λ x. x.over ≡ None → IsLawful g.L.Law.terms x c.args.note.now) (sym c.self.view_is) c.requires.lawful c.in-None.is

pub invariant_of-pass : goal.invariant_of-pass
invariant_of-pass g c =
    let s = c.self.inside in
    let i = c.self.invariant in
    let size = c.clear.ensures.size in
    elim c.match-over.branch [
      | in-Some w ↦
          rests_as g.L.Law.terms s.seat c.match-over.seat c.clear.new.self.slots s.count c.match-over.count s.full w.seat-is w.count-is
          (left_fits g.L.Law.terms s.seat.me _ _ _ i.fits) i.knows i.bare c.clear.ensures.blank
          (size ∙ (ap (λ l. length l.slots) w.log-is ∙ i.room))
      | in-None w ↦
          let e = w.conclude-outcome in
          let d = e.ensures.ended in
          rests_as g.L.Law.terms e.new.seat c.match-over.seat c.clear.new.self.slots e.new.count c.match-over.count s.full w.seat-is
          w.count-is d.pass
          (d.store s.full i.knows) (d.seat.2 ∙ i.bare) c.clear.ensures.blank
          (size ∙ (ap (λ l. length l.slots) w.log-is ∙ (ap length e.ensures.log
          ∙ (i.room ∙ sym (ap (λ h. length h.base) (concluded_home g.L.Law.terms _ _ _ _ _ _ _ _ d))))))
    ]

pub returns-clause-ended : goal.returns-clause-ended
returns-clause-ended g c = λ o.
    let s = c.self.inside in
    let open_now : s.over ≡ None = subst (λ x. x.over ≡ None) (sym c.self.view_is) o in
    elim c.match-over.branch [
      | in-Some w ↦ let q = w.in-Some.is in absurd (cc)
      | in-None w ↦
          let e = w.conclude-outcome in
          let k = known_of e.new.seat.table_id e.new.seat.me.0 in
          subst (λ t. Ends g.L.Law.terms c.args.note.now c.args.self (known_of t.table_id t.me.0) c.match-over.outcome) (sym w.seat-is)
          (subst (λ x. Ends g.L.Law.terms c.args.note.now c.args.self k x) (sym w.outcome-is)
          (subst (λ x. Ends g.L.Law.terms c.args.note.now x k e.result) c.self.view_is
          (subst (λ x. Ends g.L.Law.terms c.args.note.now (going_of s.seat.table_id s.seat.me.0 s.place s.mode x s.log.slots) k e.result)
          (sym open_now) e.ensures.ended.ends)))
    ]

pub returns-clause-home : goal.returns-clause-home
returns-clause-home g c =
    elim c.match-over.branch [
      | in-Some w ↦ ap (λ t. (known_of t.table_id t.me.0).home) w.seat-is ∙ ap (λ x. x.known.home) c.self.view_is
      | in-None w ↦
          ap (λ t. (known_of t.table_id t.me.0).home) w.seat-is
          ∙ (concluded_home g.L.Law.terms _ _ _ _ _ _ _ _ w.conclude-outcome.ensures.ended
          ∙ ap (λ x. x.known.home) c.self.view_is)
    ]
