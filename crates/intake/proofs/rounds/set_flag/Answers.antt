-- What is left to show of `set_flag`: the label is there, and is that of an assertion.
use Rattle.std.proofs.Common.{◌≡◌, ◌∙◌, ◌<◌, true, refl, sym, ap, subst}
use Rattle.std.specs.Prelude.{slice_get, Some}
use Rattle.mmtext.specs.Words.{Word}
use Rattle.source.specs.Scopes.{is_in}
use Rattle.choosing.specs.Choices.{labels_of}
use Rattle.choosing.proofs.Marked.{found_at}
use Rattle.intake.proofs.Long.{none_there, unplaced, same_item}
use Rattle.intake.proofs.rounds.set_flag.Goals as goal

pub unreachable-requires : goal.unreachable-requires
unreachable-requires g c =
    none_there c.args.sites.now.labels c.args.place c.requires.there.0
    (c.in_default.ensures ∙ ap (λ ls. slice_get ls c.args.place) c.labels.ensures) c.requires.there.1

pub unreachable-requires-in_default-place_of : goal.unreachable-requires-in_default-place_of
unreachable-requires-in_default-place_of g c =
    let xs = (g.D.Declared.scope c.args.declared.now).assertions in
    let at : slice_get c.args.sites.now.labels c.args.place ≡ Some c.in-Some.label.now =
    ap (λ ls. slice_get ls c.args.place) (sym c.labels.ensures) ∙ sym c.in-Some.ensures in
    unplaced xs c.in-Some.label.now
    (subst (λ (l : Word). is_in (labels_of xs) l ≡ true)
    (same_item c.args.sites.now.labels c.args.place c.requires.there.0 c.in-Some.label.now c.requires.there.1 at) c.requires.there.2)
    (sym c.in_default-place_of.ensures)

pub bounds-flags-number : goal.bounds-flags-number
bounds-flags-number g c =
    let xs = (g.D.Declared.scope c.args.declared.now).assertions in
    let at = found_at xs c.in-Some.label.now c.in-Some-place_of.number (sym c.in-Some-place_of.ensures) in
    subst (λ n. c.in-Some-place_of.number < n) (sym c.requires.many) at.3

pub returns : goal.returns
returns g c =
    let at : slice_get c.args.sites.now.labels c.args.place ≡ Some c.in-Some.label.now =
    ap (λ ls. slice_get ls c.args.place) (sym c.labels.ensures) ∙ sym c.in-Some.ensures in
    (c.in-Some.label.now, c.in-Some-place_of.number, at, sym c.in-Some-place_of.ensures, refl)
