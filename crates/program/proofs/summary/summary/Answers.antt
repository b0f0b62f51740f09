-- What is left to show of `summary`: its parts.
use Rattle.std.proofs.Common.{◌≡◌, ◌∙◌, ◌++◌, ap, codes}
use Rattle.std.specs.Prelude.{String, string_bytes}
use Rattle.std.specs.declared.alloc.Global.{Global}
use Rattle.std.proofs.lemmas.Result.{IfOk-weaker}
use Rattle.outside.specs.Events.{Bytes}
use Rattle.program.specs.Summaries.{counted_if, grouped, put_text, summary}
use Rattle.program.proofs.summary.summary.Goals as goal

abbrev line_of : Bytes → Bytes → Bytes → Bytes → Bytes → Bytes
line_of committed read undone put bytes =
    committed ++ (codes " committed" ++ (read ++ (undone ++ (codes "; " ++ (put ++ (codes ", " ++ (bytes ++ codes " bytes")))))))

pub returns : goal.returns
returns c =
    let counts = c.args.counts in
    let committed = string_bytes c.in_ok-committed.committed in
    let read = string_bytes c.in_ok-read.read in
    let undone = string_bytes c.in_ok-undone.undone in
    let put = string_bytes c.in_ok-put.put in
    let bytes = string_bytes c.in_ok-bytes.bytes in
    let reads = counted_if counts.read (codes " only read") in
    let lacks = counted_if counts.undone (codes " not done") in
    let is_put = put_text c.args.place c.args.source.now in
    IfOk-weaker c.format.result (λ (line : String Global). string_bytes line ≡ line_of committed read undone put bytes)
    (λ (line : String Global). string_bytes line ≡ summary c.args.place c.args.source.now c.args.bytes counts)
    (λ line is. is
    ∙ ap (λ x. line_of x read undone put bytes) c.in_ok-committed.ensures
    ∙ ap (λ x. line_of (grouped counts.committed) x undone put bytes) c.in_ok-read.ensures
    ∙ ap (λ x. line_of (grouped counts.committed) reads x put bytes) c.in_ok-undone.ensures
    ∙ ap (λ x. line_of (grouped counts.committed) reads lacks x bytes) c.in_ok-put.ensures
    ∙ ap (line_of (grouped counts.committed) reads lacks is_put) c.in_ok-bytes.ensures) c.format.ensures.ok
