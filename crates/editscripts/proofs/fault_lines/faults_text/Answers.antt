-- What is left to show of `faults_text`.
use Rattle.std.proofs.Common.{◌≡◌, ◌∙◌, ◌++◌, List, map, length, ap}
use Rattle.std.specs.Prelude.{String, string_bytes}
use Rattle.std.specs.declared.alloc.Global.{Global}
use Rattle.std.proofs.lemmas.Result.{IfOk-weaker}
use Rattle.checking.specs.Checks.{Bytes}
use Rattle.editscripts.specs.Faults.{rest_lines, told_lines, lines_text}
use Rattle.editscripts.specs.Views.{seen_fault, seen_lines, seen_texts}
use Rattle.editscripts.proofs.FaultTexts.{told_are}
use Rattle.editscripts.proofs.fault_lines.faults_text.Goals as goal

pub returns : goal.returns
returns c =
    let paths = map (λ p. p.now) c.args.paths.now in
    let texts = seen_texts c.args.texts.now in
    let faults = c.args.faults.now in
    let more = c.split_at.result.1.now in
    let told = told_are paths texts faults c.min.result c.min.ensures c.split_at.result.0.now more c.split_at.ensures.front
    c.split_at.ensures.back in
    let lines : seen_lines c.as_slice.result.now ≡ told_lines paths texts (map seen_fault faults) =
    ap seen_lines c.as_slice.ensures.value
    ∙ (c.in_ok-put_rest.ensures ∙ (ap (λ (ls : List Bytes). ls ++ rest_lines (length more)) c.in_ok-lines.ensures ∙ told)) in
    IfOk-weaker c.lines_text.result (λ (text : String Global). string_bytes text ≡ lines_text (seen_lines c.as_slice.result.now))
    (λ (text : String Global). string_bytes text ≡ lines_text (told_lines paths texts (map seen_fault faults)))
    (λ text is. is ∙ ap lines_text lines) c.lines_text.ensures
