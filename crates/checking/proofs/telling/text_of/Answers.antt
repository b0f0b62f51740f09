use Rattle.std.proofs.Common.{◌∙◌, ap, sym, subst}
use Rattle.std.specs.Str.{IsUtf8}
use Rattle.checking.specs.FaultLines.{shown_label}
use Rattle.checking.proofs.Shown.{shown_text, shown_otherwise}
use Rattle.checking.proofs.telling.text_of.Goals as goal

pub returns-in-Ok : goal.returns-in-Ok
returns-in-Ok c =
    let cases = c.in-Ok.ensures.cases in
    cases.0 ∙ sym (shown_text _ cases.1) ∙ ap shown_label c.as_slice.ensures

pub returns-in-Err : goal.returns-in-Err
returns-in-Err c =
    let cases = c.in-Err.ensures.cases in
    sym (shown_otherwise _ (λ h. cases.0 (subst IsUtf8 (sym c.as_slice.ensures) h)))
