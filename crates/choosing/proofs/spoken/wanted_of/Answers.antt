-- What is left to show of `wanted_of`.
use Rattle.std.proofs.Common.{◌≡◌, ◌∙◌, sym}
use Rattle.std.specs.Prelude.{◌&&◌}
use mathlib.Core.Bool.{not}
use Rattle.std.proofs.lemmas.List.{with_items_is}
use Rattle.source.specs.Scopes.{is_in}
use Rattle.source.specs.Views.{seen_words}
use Rattle.choosing.specs.Spoken.{is_wanted}
use Rattle.choosing.proofs.spoken.wanted_of.Goals as goal

pub returns-clause-labels : goal.returns-clause-labels
returns-clause-labels g c =
    let s = g.D.Declared.scope c.args.declared.now in
    let spoken = seen_words c.args.spoken.now in
    let asked = seen_words c.args.asked.now in
    let after = c.mark_needs.new.marks in
    c.in_ok-labels.ensures (is_wanted s spoken asked)
    (c.in_ok-mark_needs.ensures (is_in asked) (is_in spoken) (c.in_ok-proofs.ensures ∙ sym c.deref.ensures.value)
    (c.in_ok-marks.ensures ∙ sym c.deref_mut.ensures.value)
    ∙ sym (with_items_is c.in_ok-marks.marks after (c.mark_needs.auto.marks ∙ c.deref_mut.ensures.len))
    ∙ sym c.deref-2.ensures.value)

pub returns-clause-axioms : goal.returns-clause-axioms
returns-clause-axioms g c =
    let s = g.D.Declared.scope c.args.declared.now in
    let spoken = seen_words c.args.spoken.now in
    let asked = seen_words c.args.asked.now in
    let after = c.mark_needs.new.marks in
    c.in_ok-axioms.ensures (is_wanted s spoken asked) (is_in asked)
    (c.in_ok-mark_needs.ensures (is_in asked) (is_in spoken) (c.in_ok-proofs.ensures ∙ sym c.deref.ensures.value)
    (c.in_ok-marks.ensures ∙ sym c.deref_mut.ensures.value)
    ∙ sym (with_items_is c.in_ok-marks.marks after (c.mark_needs.auto.marks ∙ c.deref_mut.ensures.len)))
    (c.in_ok-proofs.ensures ∙ sym c.deref-3.ensures.value)
