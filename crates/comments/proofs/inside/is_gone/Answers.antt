-- What is left to show of `is_gone`.
use Rattle.std.proofs.Common.{◌∙◌, sym, subst}
use Rattle.giving.proofs.Finding.{text_found}
use Rattle.comments.specs.Insides.{labels_in, IsGoneLabel}
use Rattle.comments.proofs.inside.is_gone.Goals as goal

pub returns-in-Some : goal.returns-in-Some
returns-in-Some c = λ yes.
    let cs = c.args.gone.now in
    subst (IsGoneLabel (labels_in cs)) (sym c.in-Some.is)
    (sym (text_found cs c.in-Some.label.now c.text_for.result c.text_for.ensures) ∙ sym c.is_some.ensures ∙ yes)
