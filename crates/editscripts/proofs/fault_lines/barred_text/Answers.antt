-- What is left to show of `barred_text`: labels are shown.
use Rattle.std.proofs.Common.{◌≡◌, ◌∙◌, ◌++◌, ℕ, List, ap, codes}
use Rattle.std.specs.Prelude.{String, string_bytes}
use Rattle.std.specs.declared.alloc.Global.{Global}
use Rattle.std.proofs.lemmas.Result.{IfOk-weaker}
use Rattle.checking.specs.FaultLines.{shown_label}
use Rattle.mmtext.specs.Views.{seen}
use Rattle.editscripts.specs.Refusals.{barred_text}
use Rattle.editscripts.proofs.fault_lines.barred_text.Goals as goal

pub returns : goal.returns
returns c =
    let text : List ℕ → List ℕ → List ℕ = λ label by. label ++ (codes " can't leave its place: "
    ++ (by ++ codes " cites it, and no script moves that or gives it another proof")) in
    let label = c.shown-label.result.now in
    let by = c.shown-by.result.now in
    IfOk-weaker c.format.result (λ (said : String Global). string_bytes said ≡ text label by)
    (λ (said : String Global). string_bytes said ≡ barred_text (seen c.args.word) c.args.by.now)
    (λ said is.
    is
    ∙ ap (λ (l : List ℕ). text l by) c.shown-label.ensures
    ∙ ap (λ (b : List ℕ). text (shown_label c.args.word.text.now) b) c.shown-by.ensures)
    c.format.ensures.ok
