-- What is left to show of `given`.
use Rattle.std.proofs.Common.{◌≡◌, ◌∙◌, ◌++◌, refl, sym, ap, subst, Some}
use Rattle.std.specs.Prelude.{slice_get}
use Rattle.source.specs.Views.{seen_hypotheses}
use Rattle.source.proofs.Asked.{hypotheses_are, whole_at}
use Rattle.taking.proofs.Turned.{if_ok}
use Rattle.prooftrees.specs.Roles.{role_of}
use Rattle.pasting.specs.Additions.{theorem_of}
use Rattle.pasting.specs.Views.{IsTheorem, places_by, seen_addition}
use Rattle.pasting.specs.declared.proving.Theorem.{Theorem}
use Rattle.pasting.proofs.Citable.{active_is, frames_are}
use Rattle.pasting.proofs.Pasting.{told_in}
use Rattle.pasting.proofs.paster.Paster.given.Goals as goal

pub returns-in_ok-mandatory-in-Standing : goal.returns-in_ok-mandatory-in-Standing
returns-in_ok-mandatory-in-Standing g c =
    let s = g.D.Declared.scope c.args.declared.now in
    let m = places_by c.args.self.now in
    let t = c.args.self.now.database.now.prelude in
    let a = c.args.additions.now in
    let p = c.args.proving.now in
    let place = c.in-Standing.place in
    if_ok c.given.result
    (λ told h. λ xs r known is.
    let x = r.theorem in
    let at : slice_get s.assertions place ≡ Some x = subst (λ (th : Theorem). IsTheorem m t s th x) c.in-Standing.is is.theorem in
    let active = active_is s.assertions place x (seen_hypotheses c.in_ok-active-in-Standing.field-0.items) at
    c.in_ok-active-in-Standing.ensures in
    h (s.assertions ++ xs) x (frames_are m t s.assertions xs a known)
    (λ w. c.in_ok-roles-in-Standing.ensures w ∙ ap (λ hs. role_of hs w) (sym active))
    (hypotheses_are s.assertions place x at (seen_hypotheses c.in_ok-mandatory-in-Standing.mandatory.items)
    c.in_ok-mandatory-in-Standing.ensures)
    (whole_at s place x c.requires.whole at).mandatory
    ∙ told_in m t s xs a.labels p r x known.added.labels_are is refl)
    c.given.ensures

pub returns-in-Reproved : goal.returns-in-Reproved
returns-in-Reproved g c =
    let s = g.D.Declared.scope c.args.declared.now in
    let m = places_by c.args.self.now in
    let t = c.args.self.now.database.now.prelude in
    let x = theorem_of m t (seen_addition c.in-Reproved.addition.now) in
    if_ok c.given_to_addition.result
    (λ told h. λ xs r known is.
    let same : r.theorem ≡ x = subst (λ (th : Theorem). IsTheorem m t s th r.theorem) c.in-Reproved.is is.theorem in
    h m t xs known ∙ told_in m t s xs c.args.additions.now.labels c.args.proving.now r x known.added.labels_are is (sym same))
    c.given_to_addition.ensures

pub returns-in-Added : goal.returns-in-Added
returns-in-Added g c =
    let s = g.D.Declared.scope c.args.declared.now in
    let m = places_by c.args.self.now in
    let t = c.args.self.now.database.now.prelude in
    let x = theorem_of m t (seen_addition c.in-Added.addition) in
    if_ok c.given_to_addition-in-Added.result
    (λ told h. λ xs r known is.
    let same : r.theorem ≡ x = subst (λ (th : Theorem). IsTheorem m t s th r.theorem) c.in-Added.is is.theorem in
    h m t xs known ∙ told_in m t s xs c.args.additions.now.labels c.args.proving.now r x known.added.labels_are is (sym same))
    c.given_to_addition-in-Added.ensures
