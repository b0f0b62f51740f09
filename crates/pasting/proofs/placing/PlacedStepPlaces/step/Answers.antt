-- What is left to show of `step`.
use Rattle.std.proofs.Common.{◌≡◌, ◌∙◌, Some, None, sym, ap, rules}
use Rattle.std.specs.Option.{option_map}
use Rattle.mmsyntax.specs.declared.statement.Step.TheVariants.{Cite}
use Rattle.taking.specs.Names.{float_in, label_in}
use Rattle.taking.specs.Listings.{own_step}
use Rattle.pasting.specs.Places.{places_of}
use Rattle.pasting.specs.Views.{places_behind}
use Rattle.pasting.proofs.Labelled.{label_stays, label_added, label_none}
use Rattle.pasting.proofs.placing.PlacedStepPlaces.step.Goals as goal

pub returns-in_ok-copy-in-Some-label : goal.returns-in_ok-copy-in-Some-label
returns-in_ok-copy-in-Some-label c =
    let p = c.args.self.now in
    let m = places_of p.sites.now.floats p.sites.now.labels p.database.now in
    let w = c.args.label.now in
    let here : label_in m w ≡ Some c.in-Some-label.name.now = sym c.label.ensures ∙ ap (option_map (λ l. l.now)) c.in-Some-label.is in
    let float : None ≡ float_in m w = search rules in
    let own : own_step None None (Some c.in-Some-label.name.now) ≡ own_step None (float_in m w) (label_in (places_behind p) w) =
    ap (λ o. own_step None o (Some c.in-Some-label.name.now)) float
    ∙ ap (own_step None (float_in m w)) (sym (label_stays m p.additions.now.labels w c.in-Some-label.name.now here)) in
    ap (λ l. Some (Cite l)) c.in_ok-copy-in-Some-label.ensures ∙ own

pub returns-in_ok-from_slice-in-None : goal.returns-in_ok-from_slice-in-None
returns-in_ok-from_slice-in-None c =
    let p = c.args.self.now in
    let m = places_of p.sites.now.floats p.sites.now.labels p.database.now in
    let w = c.args.label.now in
    let none : label_in m w ≡ None = sym c.label.ensures ∙ ap (option_map (λ l. l.now)) c.in-None.is in
    let float : None ≡ float_in m w = search rules in
    ap (λ l. Some (Cite l)) c.in_ok-from_slice-in-None.ensures
    ∙ ap (λ o. own_step None o (Some w)) float
    ∙ ap (own_step None (float_in m w)) (sym (label_added m p.additions.now.labels w none (sym c.have.ensures ∙ c.if-have.true)))

pub returns-in-None-2 : goal.returns-in-None-2
returns-in-None-2 c =
    let p = c.args.self.now in
    let m = places_of p.sites.now.floats p.sites.now.labels p.database.now in
    let w = c.args.label.now in
    let none : label_in m w ≡ None = sym c.label.ensures ∙ ap (option_map (λ l. l.now)) c.in-None-2.is in
    let float : None ≡ float_in m w = search rules in
    ap (λ o. own_step None o None) float
    ∙ ap (own_step None (float_in m w)) (sym (label_none m p.additions.now.labels w none (sym c.have.ensures ∙ c.if-have.false)))
