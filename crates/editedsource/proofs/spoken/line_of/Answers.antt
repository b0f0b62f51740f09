-- What is left to show of `line_of`: a label is shown.
use Rattle.std.proofs.Common.{◌≡◌, ◌∙◌, ◌++◌, ℕ, List, ap, codes}
use Rattle.std.specs.Prelude.{String, string_bytes}
use Rattle.std.specs.Fmt.{decimal}
use Rattle.std.specs.declared.alloc.Global.{Global}
use Rattle.std.proofs.lemmas.Result.{IfOk-weaker}
use Rattle.checking.specs.FaultLines.{shown_label}
use Rattle.editedsource.proofs.spoken.line_of.Goals as goal

pub returns : goal.returns
returns c =
    let text : List ℕ → List ℕ = λ label. c.args.path.now ++ (codes ":" ++ (decimal c.args.line
    ++ (codes ": a comment speaks of " ++ (label ++ codes ", which was deleted")))) in
    IfOk-weaker c.format.result (λ (said : String Global). string_bytes said ≡ text c.shown-label.result.now)
    (λ (said : String Global). string_bytes said ≡ text (shown_label c.args.label.now)) (λ said is. is ∙ ap text c.shown-label.ensures)
    c.format.ensures.ok
