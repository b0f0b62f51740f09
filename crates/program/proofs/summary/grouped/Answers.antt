-- What is left to show of `grouped`: digits and commas are a text.
use Rattle.std.proofs.Common.{◌≡◌, ◌∙◌, ap, subst, sym}
use Rattle.std.specs.Prelude.{String, string_bytes}
use Rattle.std.specs.Str.{IsUtf8}
use Rattle.std.specs.declared.alloc.Global.{Global}
use Rattle.std.proofs.lemmas.Result.{IfOk-weaker}
use Rattle.program.specs.Summaries.{grouped, with_commas}
use Rattle.program.proofs.Commas.{grouped_utf8}
use Rattle.program.proofs.summary.grouped.Goals as goal

pub returns : goal.returns
returns c =
    let number = c.args.number in
    let bytes = c.as_slice.result.now in
    let same : bytes ≡ grouped number =
    c.as_slice.ensures.value ∙ c.in_ok-text.ensures ∙ ap with_commas (c.as_bytes.ensures.value ∙ c.in_ok-digits.ensures.ok) in
    IfOk-weaker c.from_utf8_lossy.result (λ (text : String Global). IsUtf8 bytes → string_bytes text ≡ bytes)
    (λ (text : String Global). string_bytes text ≡ grouped number)
    (λ text is. is (subst IsUtf8 (sym same) (grouped_utf8 number c.ranges.number.fits)) ∙ same) c.from_utf8_lossy.ensures.ok
