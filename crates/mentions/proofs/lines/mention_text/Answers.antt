-- What is left to show of `mention_text`: there are others than one, and a label is shown.
use Rattle.std.proofs.Common.{◌≡◌, ◌∙◌, ◌==◌, ◌++◌, ℕ, Bool, false, cond, List, ap, codes, rules, sym, tests}
use Rattle.std.specs.Prelude.{String, string_bytes}
use Rattle.std.specs.Fmt.{decimal}
use Rattle.std.specs.declared.alloc.Global.{Global}
use Rattle.std.proofs.lemmas.Result.{IfOk-weaker}
use Rattle.checking.specs.FaultLines.{shown_label}
use Rattle.mentions.proofs.lines.mention_text.Goals as goal

pub returns : goal.returns
returns c =
    let many = c.args.many in
    let line = c.args.line in
    let label = shown_label c.args.label.now in
    let others : (many == 1) ≡ false = search (rules, tests) in
    let text : Bool → List ℕ → List ℕ = λ one label. cond one (codes "1 more mention of " ++ (label ++ (codes ", on line " ++ decimal line)))
    (decimal many ++ (codes " more mentions of " ++ (label ++ (codes ", first on line " ++ decimal line)))) in
    IfOk-weaker c.format-2.result (λ (said : String Global). string_bytes said ≡ text false c.shown-label.result.now)
    (λ (said : String Global). string_bytes said ≡ text (many == 1) label)
    (λ said is. is ∙ ap (text false) c.shown-label.ensures ∙ ap (λ one. text one label) (sym others)) c.format-2.ensures.ok
