-- What is left to show of `may_cite`.
use Rattle.std.proofs.Common.{◌∙◌, sym, ap}
use Rattle.std.specs.Prelude.{◌||◌, is_some}
use Rattle.mmsyntax.proofs.Options.{mapped_some}
use Rattle.pasting.specs.Views.{at_label}
use Rattle.pasting.proofs.Unnamed.{may_be_cited}
use Rattle.pasting.proofs.additions.may_cite.Goals as goal

pub returns-then-is_some : goal.returns-then-is_some
returns-then-is_some g c =
    let a = c.args.citing.now.additions.now in
    let w = c.args.label.now in
    let xs = (g.D.Declared.scope c.args.citing.now.declared.now).assertions in
    c.if-is_some.true
    ∙ ap (λ b. b || is_some (at_label a.labels a.flags.items w))
    (sym c.if-is_some.true ∙ c.is_some.ensures ∙ ap is_some c.place_of.ensures)
    ∙ may_be_cited xs a w

pub returns-else-is_some : goal.returns-else-is_some
returns-else-is_some g c =
    let a = c.args.citing.now.additions.now in
    let w = c.args.label.now in
    let xs = (g.D.Declared.scope c.args.citing.now.declared.now).assertions in
    c.is_some-else-is_some.ensures
    ∙ sym (mapped_some (λ f. f.now) c.flags.result) ∙ ap is_some c.flags.ensures
    ∙ ap (λ b. b || is_some (at_label a.labels a.flags.items w))
    (sym c.if-is_some.false ∙ c.is_some.ensures ∙ ap is_some c.place_of.ensures)
    ∙ may_be_cited xs a w
