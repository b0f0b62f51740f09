use Rattle.std.proofs.Common.{◌≡◌, ℕ, None, sym, ap, subst, ◌∙◌}
use Rattle.lending.specs.Lent.{Pass}
use Rattle.lending.specs.Ends.{IsGivenUp}
use Rattle.transaction.specs.declared.outcome.Outcome.{Outcome}
use Rattle.transaction.specs.Tries.{Tries, StoresNothing, EndsStored, EndsWithin, carried_by}
use Rattle.transaction.specs.Meeting.{met_at, conflict_of}
use Rattle.transaction.proofs.Committing.{told_of, gives_up}
use Rattle.transaction.proofs.Meeting.{given_up_within}
use Rattle.transaction.proofs.attempting.stop.Goals as goal
use Rattle.transaction.proofs.attempting.stop.Goals.{in-Conflict, in-StoreFull, in-NoMemory}

pub returns-clause-tries : goal.returns-clause-tries
returns-clause-tries c =
    let l = c.args.live.run in
    let lending = c.place-place.ensures.stands in
    let cs = c.args.commands.now in
    let place = c.place-place.ensures.value in
    let why = c.give_up-kit.result.1 in
    let ended = c.give_up-kit.ensures in
    let is : c.match-why.outcome ≡ told_of l.going.place why = elim c.match-why.branch [
      | in-Conflict w ↦
          let met = w.conflict-outcome.ensures ∙ ap (λ (p : ℕ). conflict_of (met_at p w.in-Conflict.found)) place in
          w.outcome-is ∙ met ∙ ap (told_of l.going.place) (sym w.in-Conflict.is)
      | in-StoreFull w ↦ w.outcome-is ∙ ap (told_of l.going.place) (sym w.in-StoreFull.is)
      | in-NoMemory w ↦ w.outcome-is ∙ ap (told_of l.going.place) (sym w.in-NoMemory.is)
    ] in
    subst (λ (k : Pass). Tries cs l.began k c.match-why.outcome None) (sym ended.kit)
    (subst (λ (o : Outcome). Tries cs l.began l.going.known o None) (sym is)
    (gives_up l lending.0 lending.1 lending.2 cs why ended.why c.requires.writes c.requires.stages))

pub returns-clause-stored : goal.returns-clause-stored
returns-clause-stored c =
    let kept : StoresNothing (carried_by c.args.live.run) c.give_up-kit.result.0 =
    (ap (λ (k : Pass). k.taken) c.give_up-kit.ensures.kit, c.give_up-kit.ensures.staged) in
    let l = c.args.live.run in
    let made = c.give_up-kit.ensures in
    let outcomes = EndsStored (carried_by l) c.give_up-kit.result.0 in
    elim c.match-why.branch [
      | in-Conflict w ↦ subst outcomes (sym (w.outcome-is ∙ w.conflict-outcome.ensures)) kept
      | in-StoreFull w ↦ subst outcomes (sym w.outcome-is) (kept, made.lacked ∙ (subst (IsGivenUp l) w.in-StoreFull.is made.why).1)
      | in-NoMemory w ↦ subst outcomes (sym w.outcome-is) (kept, made.lacked ∙ (subst (IsGivenUp l) w.in-NoMemory.is made.why).1)
    ]

pub returns-clause-within : goal.returns-clause-within
returns-clause-within c =
    let l = c.args.live.run in
    let lending = c.place-place.ensures.stands in
    let cs = c.args.commands.now in
    let place = c.place-place.ensures.value in
    let why = c.give_up-kit.result.1 in
    let ended = c.give_up-kit.ensures in
    let is : c.match-why.outcome ≡ told_of l.going.place why = elim c.match-why.branch [
      | in-Conflict w ↦
          let met = w.conflict-outcome.ensures ∙ ap (λ (p : ℕ). conflict_of (met_at p w.in-Conflict.found)) place in
          w.outcome-is ∙ met ∙ ap (told_of l.going.place) (sym w.in-Conflict.is)
      | in-StoreFull w ↦ w.outcome-is ∙ ap (told_of l.going.place) (sym w.in-StoreFull.is)
      | in-NoMemory w ↦ w.outcome-is ∙ ap (told_of l.going.place) (sym w.in-NoMemory.is)
    ] in
    subst (λ (k : Pass). EndsWithin l.began cs k c.match-why.outcome) (sym ended.kit)
    (subst (λ (o : Outcome). EndsWithin l.began cs l.going.known o) (sym is)
    (given_up_within l lending.0 lending.1 lending.2 cs c.requires.asks why ended.why))
