-- What is left to show of `mention_lines`: the look-up holds the labels.
use Rattle.std.proofs.Common.{◌≡◌, ◌∙◌, List, ap, map, Vec, Global}
use Rattle.std.specs.Prelude.{String, string_bytes}
use Rattle.std.proofs.lemmas.Result.{IfOk-weaker}
use Rattle.mmtext.specs.Words.{Word}
use Rattle.mmtext.specs.Views.{seen}
use Rattle.source.specs.Views.{seen_words}
use Rattle.sourceediting.proofs.Marks.{firsts, firsts_marked}
use Rattle.mentions.specs.Lines.{mention_lines, named}
use Rattle.mentions.specs.Mentioned.{mentioned_in}
use Rattle.mentions.proofs.Telling.{lines_of}
use Rattle.mentions.proofs.lines.mention_lines.Goals as goal

pub returns : goal.returns
returns c =
    let out = c.args.out.now in
    let labels = seen_words c.args.labels.now in
    let words = mentioned_in labels out in
    let found : map seen c.in_ok-words.words.items ≡ words =
    c.in_ok-words.ensures
    ∙ ap (λ (ws : List Word). mentioned_in ws out) (ap firsts c.in_ok-marks.ensures ∙ firsts_marked labels) in
    let own : seen_words c.as_slice-3.result.now ≡ named words labels =
    ap seen_words c.as_slice-3.ensures.value ∙ c.in_ok-named.ensures
    ∙ ap (λ ts. named (map seen ts) labels) c.as_slice.ensures.value ∙ ap (λ ts. named ts labels) found in
    let all : map seen c.as_slice-2.result.now ≡ words = ap (map seen) c.as_slice-2.ensures.value ∙ found in
    IfOk-weaker c.capped_lines.result
    (λ (said : Vec (String Global) Global). map string_bytes said.items
    ≡ lines_of out (map seen c.as_slice-2.result.now) (seen_words c.as_slice-3.result.now))
    (λ (said : Vec (String Global) Global). map string_bytes said.items ≡ mention_lines out labels)
    (λ said is. is ∙ ap (λ ts. lines_of out ts (seen_words c.as_slice-3.result.now)) all ∙ ap (lines_of out words) own)
    c.capped_lines.ensures
