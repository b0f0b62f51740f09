-- What is left to show of `raise`.
use Rattle.std.proofs.Common.{◌∙◌, ◌<◌, List, ℕ, Bor, ap, sym, subst}
use Rattle.std.proofs.lemmas.List.{map_push}
use Rattle.source.specs.Views.{seen_words}
use Rattle.expanding.specs.Bearing.{bearers_for, seen_bearers, AreAmong, AreBacked, room}
use Rattle.expanding.proofs.Raising.{bearers_put, put_rises, put_backed}
use Rattle.expanding.proofs.bearers.raise.Goals as goal

pub returns-in_ok-push-clause-rises : goal.returns-in_ok-push-clause-rises
returns-in_ok-push-clause-rises c =
    let m = c.args.called.now in
    let n = c.insert.new.self in
    let x = c.args.label.now in
    let b = seen_bearers c.with-new.result in
    let put = bearers_put m n x c.with-new.result c.in_ok-insert.ensures.updates in
    let more : AreAmong (bearers_for m x) b = subst (λ o. AreAmong o b) c.bearers_for-old.ensures c.with-new.ensures.these in
    let less : room b < room (bearers_for m x) =
    subst (λ o. room b < room o) c.bearers_for-old.ensures
    (subst (λ k. k < room (seen_bearers c.bearers_for-old.result)) c.room.ensures
    (subst (λ k. c.room.result < k) c.room-2.ensures c.if-room.true)) in
    put_rises (bearers_for m) (bearers_for n) x b put (seen_words c.args.todo.now.items) (seen_words c.push.new.self.items)
    (ap seen_words c.in_ok-push.ensures.items ∙ map_push (λ (v : Bor (List ℕ)). v.now) c.args.todo.now.items c.args.label) more less

pub returns-in_ok-push-clause-backed : goal.returns-in_ok-push-clause-backed
returns-in_ok-push-clause-backed c = λ rs test all one.
    let m = c.args.called.now in
    let n = c.insert.new.self in
    let x = c.args.label.now in
    let put = bearers_put m n x c.with-new.result c.in_ok-insert.ensures.updates in
    put_backed (bearers_for m) (bearers_for n) x (seen_bearers c.with-new.result) put rs test all
    (c.with-new.ensures.backed rs test x (subst (AreBacked rs test x) (sym c.bearers_for-old.ensures) (all x)) one)
