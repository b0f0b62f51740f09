-- What is left to show of `spoken_lines`: of no labels no word speaks, and else the look-up holds those that are lost.
use Rattle.std.proofs.Common.{◌≡◌, ◌∙◌, [], List, length, map, sym, ap, rules, None, Vec, Global}
use Rattle.std.specs.Prelude.{String, string_bytes}
use Rattle.std.proofs.lemmas.List.{nil_from_length}
use Rattle.std.proofs.lemmas.Result.{IfOk-weaker}
use Rattle.mmtext.specs.Words.{Word}
use Rattle.mmtext.specs.Text.{Token, tokens}
use Rattle.mmtext.specs.Views.{seen}
use Rattle.source.specs.Views.{seen_words}
use Rattle.commentwords.specs.Spoken.{spoken_in, labels_from}
use Rattle.sourceediting.specs.Views.{seen_following}
use Rattle.sourceediting.proofs.Marks.{firsts, firsts_marked}
use Rattle.editedsource.specs.Gone.{lost, spoken_line}
use Rattle.editedsource.proofs.Picked.{none_spoken}
use Rattle.editedsource.proofs.spoken.spoken_lines.Goals as goal

pub returns-then-is_empty : goal.returns-then-is_empty
returns-then-is_empty c =
    let out = c.args.out.now in
    let say = spoken_line c.args.path.now out in
    let long : length c.in_ok-lost.lost.items ≡ 0 = search rules in
    let none : c.in_ok-lost.lost.items ≡ [] = nil_from_length c.in_ok-lost.lost.items long in
    ap (map string_bytes) c.new.ensures.items
    ∙ ap (map say) (sym (none_spoken (labels_from None (tokens out)))
    ∙ ap (λ (ws : List Word). spoken_in ws out) (sym (ap seen_words none) ∙ c.in_ok-lost.ensures))

pub returns : goal.returns
returns c =
    let out = c.args.out.now in
    let say = spoken_line c.args.path.now out in
    let gone = lost (seen_following c.args.following.now) in
    let labels : firsts c.in_ok-marks.marks ≡ gone =
    ap firsts c.in_ok-marks.ensures ∙ firsts_marked (seen_words c.as_slice.result.now)
    ∙ ap seen_words c.as_slice.ensures.value ∙ c.in_ok-lost.ensures in
    let words : map seen c.as_slice-2.result.now ≡ spoken_in gone out =
    ap (map seen) c.as_slice-2.ensures.value ∙ c.in_ok-found.ensures ∙ ap (λ (ws : List Word). spoken_in ws out) labels in
    let said_for : List Token → Vec (String Global) Global → Type 0 = λ ts said. map string_bytes said.items ≡ map say ts in
    IfOk-weaker c.said_of.result (said_for (map seen c.as_slice-2.result.now)) (said_for (spoken_in gone out))
    (λ said is. is ∙ ap (map say) words) c.said_of.ensures
