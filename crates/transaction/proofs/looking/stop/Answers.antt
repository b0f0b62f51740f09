use Rattle.std.proofs.Common.{◌≡◌, ℕ, sym, ap, subst, ◌∙◌}
use Rattle.lending.specs.Lent.{Pass}
use Rattle.transaction.specs.declared.outcome.Look.{Look}
use Rattle.transaction.specs.Meeting.{met_at, look_met}
use Rattle.transaction.specs.Looks.{Sees}
use Rattle.transaction.specs.Tries.{IsLaterPass}
use Rattle.transaction.proofs.Ended.{is_later}
use Rattle.transaction.proofs.Looked.{told_of, told_none, sees_stopped}
use Rattle.transaction.proofs.looking.stop.Goals as goal
use Rattle.transaction.proofs.looking.stop.Goals.{in-Conflict, in-StoreFull}

pub returns-clause-later : goal.returns-clause-later
returns-clause-later c =
    let l = c.args.live.run in
    let lending = c.place-place.ensures.stands in
    subst (IsLaterPass l.began) (sym c.give_up-kit.ensures.kit) (is_later l lending.0 lending.1 lending.2)

pub returns-clause-sees : goal.returns-clause-sees
returns-clause-sees c =
    let l = c.args.live.run in
    let lending = c.place-place.ensures.stands in
    let place = c.place-place.ensures.value in
    let why = c.give_up-kit.result.1 in
    let ended = c.give_up-kit.ensures in
    let is : c.match-why.seen ≡ told_of l.going.place why = elim c.match-why.branch [
      | in-Conflict w ↦
          let met = w.look_conflict-seen.ensures ∙ ap (λ (p : ℕ). look_met (met_at p w.in-Conflict.found)) place in
          w.seen-is ∙ met ∙ ap (told_of l.going.place) (sym w.in-Conflict.is)
      | in-StoreFull w ↦ w.seen-is ∙ sym (told_none l.going.place why w.in-StoreFull.is)
    ] in
    subst (λ (k : Pass). Sees l.began k c.match-why.seen) (sym ended.kit)
    (subst (λ (s : Look). Sees l.began l.going.known s) (sym is)
    (sees_stopped l lending.0 lending.1 lending.2 why ended.why c.requires.reading))

pub returns-clause-stored : goal.returns-clause-stored
returns-clause-stored c = (ap (λ (k : Pass). k.taken) c.give_up-kit.ensures.kit, c.give_up-kit.ensures.staged)
