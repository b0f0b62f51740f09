-- What is left to show of `step`.
use Rattle.std.proofs.Common.{◌∙◌, Some, None, sym, ap}
use Rattle.std.specs.Prelude.{is_some}
use mathlib.Core.Bool.{not}
use Rattle.mmsyntax.specs.declared.statement.Step.TheVariants.{Cite}
use Rattle.taking.specs.Listings.{own_step}
use Rattle.dressing.proofs.Naming.{own_label, no_label}
use Rattle.dressing.proofs.listing.OwnNamesStepPlaces.step.Goals as goal

pub returns-then-is_none : goal.returns-then-is_none
returns-then-is_none c =
    let labels = c.args.self.now.labels in
    let w = c.args.label.now in
    ap (own_step None None)
    (sym (no_label labels w (ap is_some (sym c.place.ensures.place) ∙ (c.is_none.ensures ∙ ap not c.if-is_none.true))))

pub returns : goal.returns
returns c =
    let labels = c.args.self.now.labels in
    let w = c.args.label.now in
    ap (λ l. Some (Cite l)) c.in_ok-from_slice.ensures
    ∙ ap (own_step None None)
    (sym (own_label labels w (ap is_some (sym c.place.ensures.place) ∙ (c.is_none.ensures ∙ ap not c.if-is_none.false))))
