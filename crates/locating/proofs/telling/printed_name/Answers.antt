use Rattle.std.proofs.Common.{◌∙◌, sym}
use Rattle.locating.proofs.Shown.{shown_text, shown_otherwise}
use Rattle.locating.proofs.telling.printed_name.Goals as goal

pub returns-in-Ok : goal.returns-in-Ok
returns-in-Ok c =
    let cases = c.in-Ok.ensures.cases in
    cases.0 ∙ sym (shown_text _ cases.1)

pub returns-in-Err : goal.returns-in-Err
returns-in-Err c =
    let cases = c.in-Err.ensures.cases in
    sym (shown_otherwise _ cases.0)
