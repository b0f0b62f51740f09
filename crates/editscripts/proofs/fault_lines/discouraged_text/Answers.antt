-- What is left to show of `discouraged_text`: labels are shown.
use Rattle.std.proofs.Common.{◌≡◌, ◌∙◌, ◌++◌, ℕ, List, ap, sym, codes}
use Rattle.std.specs.Prelude.{String, string_bytes}
use Rattle.std.specs.declared.alloc.Global.{Global}
use Rattle.std.proofs.lemmas.Result.{IfOk-weaker}
use Rattle.expanding.specs.Views.{seen_discouraged}
use Rattle.editscripts.specs.Encouraged.{discouraged_text}
use Rattle.editscripts.proofs.fault_lines.discouraged_text.Goals as goal

pub returns-in-Modifies : goal.returns-in-Modifies
returns-in-Modifies c =
    let text : List ℕ → List ℕ = λ label. label ++ codes ": proof modification is discouraged" in
    IfOk-weaker c.format.result (λ (said : String Global). string_bytes said ≡ text c.shown-label.result.now)
    (λ (said : String Global). string_bytes said ≡ discouraged_text (seen_discouraged c.args.what))
    (λ said is.
    is
    ∙ ap (λ (l : List ℕ). text l) c.shown-label.ensures
    ∙ sym (ap (λ w. discouraged_text (seen_discouraged w)) c.in-Modifies.is))
    c.format.ensures.ok

pub returns-in-Uses : goal.returns-in-Uses
returns-in-Uses c =
    let text : List ℕ → List ℕ = λ label. label ++ codes ": new usage is discouraged" in
    IfOk-weaker c.format-in-Uses.result (λ (said : String Global). string_bytes said ≡ text c.shown-label-in-Uses.result.now)
    (λ (said : String Global). string_bytes said ≡ discouraged_text (seen_discouraged c.args.what))
    (λ said is.
    is
    ∙ ap (λ (l : List ℕ). text l) c.shown-label-in-Uses.ensures
    ∙ sym (ap (λ w. discouraged_text (seen_discouraged w)) c.in-Uses.is))
    c.format-in-Uses.ensures.ok
