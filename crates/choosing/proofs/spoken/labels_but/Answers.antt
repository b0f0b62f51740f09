-- What is left to show of `labels_but`.
use Rattle.std.proofs.Common.{◌≡◌, ◌∙◌, sym}
use Rattle.std.specs.Prelude.{◌&&◌}
use mathlib.Core.Bool.{not}
use Rattle.std.proofs.lemmas.List.{with_items_is}
use Rattle.choosing.proofs.spoken.labels_but.Goals as goal

pub returns : goal.returns
returns g c =
    λ test asks are asked.
    c.in_ok-labels.ensures (λ w. test w && not (asks w))
    (c.unmark.ensures (g.D.Declared.scope c.args.declared.now).assertions test asks (are ∙ sym c.deref_mut.ensures.value) asked
    ∙ sym (with_items_is c.args.marks c.unmark.new.marks (c.unmark.auto.marks ∙ c.deref_mut.ensures.len))
    ∙ sym c.deref.ensures.value)
