use Rattle.std.proofs.Common.{◌≡◌, Some, false, set, refl, sym, ap, subst, ◌∙◌, inl, inr}
use Rattle.library.specs.declared.library.Ranked.{Ranked}
use Rattle.library.specs.Library.{label_of}
use Rattle.library.specs.Edits.{cites}
use Rattle.catalog.specs.Entries.{StandsIn}
use Rattle.catalog.specs.Citers.{Covers, IsCiter}
use Rattle.catalog.specs.Places.{IsIndex}
use Rattle.catalog.specs.Changes.{citing}
use Rattle.history.specs.Drafts.{Drafted}
use Rattle.catalog.proofs.Changing.{changed-nothing, changed-set}
use Rattle.catalog.proofs.Citations.{citing-alone, cites-renamed}
use Rattle.catalog.proofs.Covering.{covers-replaced}
use Rattle.catalog.proofs.Living.{one-place}
use Rattle.history.proofs.draft.Draft.recite.Goals as goal

pub returns-in_default-clause-done : goal.returns-in_default-clause-done
returns-in_default-clause-done c =
    let d = c.args.self.now in
    let held = c.as_slice.ensures.value ∙ ap (λ (x : Drafted). x.entries) c.self.view_is in
    sym (changed-nothing (citing c.args.old.now c.args.new.now) c.args.place d.entries
    (λ e here. absurd (c.in_default.ensures.none e (subst (λ l. StandsIn l c.args.place e) (sym held) here))))

pub returns-then-not-cites-clause-done : goal.returns-then-not-cites-clause-done
returns-then-not-cites-clause-done c =
    let d = c.args.self.now in
    let x = c.in-Some.entry.now in
    let old = c.args.old.now in
    let held = c.as_slice.ensures.value ∙ ap (λ (x : Drafted). x.entries) c.self.view_is in
    let at : StandsIn d.entries c.args.place x = subst (λ l. StandsIn l c.args.place x) held c.in-Some.ensures.some in
    let none : cites old x ≡ false = ap (λ w. cites w x) (sym c.as_slice-2.ensures) ∙ sym c.cites.ensures ∙ c.if-not-cites.true in
    sym (changed-nothing (citing old c.args.new.now) c.args.place d.entries (λ e here.
    let both : Some (Some x) ≡ Some (Some e) = sym at ∙ here in
    let same : x ≡ e = cc in
    citing-alone old c.args.new.now e (subst (λ (y : Ranked). cites old y ≡ false) same none)))

pub replace-requires-clause-succeeds : goal.replace-requires-clause-succeeds
replace-requires-clause-succeeds c =
    let x = c.in-Some.entry.now in
    let held = c.as_slice.ensures.value ∙ ap (λ (x : Drafted). x.entries) c.self.view_is in
    let at = subst (λ l. StandsIn l c.args.place x) held c.in-Some.ensures.some in
    rw c.in_ok-recited.ensures (record { former = x; at = at; labelled = refl; framed = refl })

pub replace-requires-clause-covered : goal.replace-requires-clause-covered
replace-requires-clause-covered c =
    let d = c.args.self.now in
    let p = c.args.place in
    let x = c.in-Some.entry.now in
    let old = c.args.old.now in
    let new = c.args.new.now in
    let held = c.as_slice.ensures.value ∙ ap (λ (x : Drafted). x.entries) c.self.view_is in
    let at : StandsIn d.entries p x = subst (λ l. StandsIn l p x) held c.in-Some.ensures.some in
    let covers : Covers d.citers d.entries = subst (λ (y : Drafted). Covers y.citers y.entries) c.self.view_is
    c.self.invariant.3.covers_now in
    let index : IsIndex c.self.inside.places d.entries =
    subst (λ (y : Drafted). IsIndex c.self.inside.places y.entries) c.self.view_is c.self.invariant.0.indexed in
    let there = c.requires.1 in
    let made = c.in_ok-recited.ensures ∙ ap (λ w. citing w new x) c.as_slice-3.ensures in
    rw made (covers-replaced d.citers d.entries p (citing old new x) covers x at refl (λ r e at_r here.
    elim (cites-renamed old new (label_of e) x here) [
      | inl own ↦
          let place = one-place c.self.inside.places d.entries r c.requires.0 e there.entry index at_r there.at
          (own ∙ sym there.labelled) in
          subst (λ k. IsCiter d.citers k p) (sym place) c.requires.2
      | inr before ↦ covers.listed r p e x at_r at before
    ]))

pub returns-clause-done : goal.returns-clause-done
returns-clause-done c =
    let d = c.args.self.now in
    let x = c.in-Some.entry.now in
    let f = citing c.args.old.now c.args.new.now in
    let held = c.as_slice.ensures.value ∙ ap (λ (x : Drafted). x.entries) c.self.view_is in
    let at = subst (λ l. StandsIn l c.args.place x) held c.in-Some.ensures.some in
    let made = c.in_ok-recited.ensures ∙ ap (λ w. citing w c.args.new.now x) c.as_slice-3.ensures in
    c.in_ok-replace.ensures.done.entries ∙ ap (λ (y : Ranked). set d.entries c.args.place (Some y)) made
    ∙ changed-set f c.args.place d.entries (Some x) at
