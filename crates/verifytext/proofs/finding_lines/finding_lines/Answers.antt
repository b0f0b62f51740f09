-- What is left to show of `finding_lines`.
use Rattle.std.proofs.Common.{◌≡◌, ◌++◌, string_bytes, ap, sym, ◌∙◌}
use Rattle.std.proofs.lemmas.Result.{IfOk-weaker}
use Rattle.source.specs.Views.{seen_words}
use Rattle.verifytext.specs.FindingLines.{keeps_apart, put_for, not_apart, finding_lines}
use Rattle.verifytext.proofs.finding_lines.finding_lines.Goals as goal

pub returns-in_ok-meeting-in-NotDisjoint : goal.returns-in_ok-meeting-in-NotDisjoint
returns-in_ok-meeting-in-NotDisjoint c =
    let f = c.in-NotDisjoint in
    let keeps : c.as_str.result.now ≡ keeps_apart f.cited.now f.first.now f.second.now =
    c.as_str.ensures.value ∙ c.in_ok-keeps-in-NotDisjoint.ensures in
    let first : c.as_str-in-NotDisjoint.result.now ≡ put_for f.first.now (seen_words f.for_first.items) =
    c.as_str-in-NotDisjoint.ensures.value ∙ c.in_ok-for_first-in-NotDisjoint.ensures
    ∙ ap (λ ws. put_for f.first.now (seen_words ws)) c.as_slice-in-NotDisjoint.ensures.value in
    let second : c.as_str-in-NotDisjoint-2.result.now ≡ put_for f.second.now (seen_words f.for_second.items) =
    c.as_str-in-NotDisjoint-2.ensures.value ∙ c.in_ok-for_second-in-NotDisjoint.ensures
    ∙ ap (λ ws. put_for f.second.now (seen_words ws)) c.as_slice-in-NotDisjoint-2.ensures.value in
    let meeting : c.as_str-in-NotDisjoint-3.result.now ≡ not_apart f.one.now f.other.now =
    c.as_str-in-NotDisjoint-3.ensures.value ∙ c.in_ok-meeting-in-NotDisjoint.ensures in
    IfOk-weaker c.pair_lines.result _ (λ text. string_bytes text ≡ finding_lines c.args.finding.now) (λ text is.
    is
    ∙ ap (λ k. k ++ (c.as_str-in-NotDisjoint.result.now ++ (c.as_str-in-NotDisjoint-2.result.now
    ++ c.as_str-in-NotDisjoint-3.result.now))) keeps
    ∙ ap (λ a. keeps_apart f.cited.now f.first.now f.second.now ++ (a ++ (c.as_str-in-NotDisjoint-2.result.now
    ++ c.as_str-in-NotDisjoint-3.result.now))) first
    ∙ ap (λ b. keeps_apart f.cited.now f.first.now f.second.now ++ (put_for f.first.now (seen_words f.for_first.items)
    ++ (b ++ c.as_str-in-NotDisjoint-3.result.now))) second
    ∙ ap (λ m. keeps_apart f.cited.now f.first.now f.second.now ++ (put_for f.first.now (seen_words f.for_first.items)
    ++ (put_for f.second.now (seen_words f.for_second.items) ++ m))) meeting
    ∙ sym (ap finding_lines f.is))
    c.pair_lines.ensures
