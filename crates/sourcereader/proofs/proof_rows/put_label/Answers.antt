-- What is left to show of `put_label`.
use Rattle.std.proofs.Common.{◌≡◌, ◌∙◌, Ok, sym, ap, subst}
use Rattle.std.specs.Result.{result_err}
use Rattle.mmtext.specs.Views.{seen}
use Rattle.mmsyntax.specs.Rows.{first_fault}
use Rattle.source.specs.Tests.{cited_tests}
use Rattle.source.specs.Views.{seen_words}
use Rattle.source.proofs.Slices.{one_more_word}
use Rattle.sourcereader.specs.Takings.{one_more}
use Rattle.sourcereader.proofs.proof_rows.put_label.Goals as goal

pub returns-in-Err-clause-puts : goal.returns-in-Err-clause-puts
returns-in-Err-clause-puts g c =
    let scope = (g.S.Standing.stand c.args.standing.now).scope in
    let ws = seen_words c.args.numbered.now.labels.items in
    let w = c.args.token.text.now in
    let told : result_err c.cited.result ≡ first_fault (cited_tests scope (seen_words c.args.theorem.now.expression.items) w) =
    subst (λ xs. result_err c.cited.result ≡ first_fault
    (cited_tests scope (seen_words xs) w)) c.deref.ensures.value c.cited.ensures.fault in
    rw c.fault_at.ensures (ap (one_more (seen c.args.token) ws) (sym told ∙ ap result_err c.in-Err.is))

pub returns-clause-puts : goal.returns-clause-puts
returns-clause-puts g c =
    let scope = (g.S.Standing.stand c.args.standing.now).scope in
    let ws = seen_words c.args.numbered.now.labels.items in
    let w = c.args.token.text in
    let told : result_err c.cited.result ≡ first_fault (cited_tests scope (seen_words c.args.theorem.now.expression.items) w.now) =
    subst (λ xs. result_err c.cited.result ≡ first_fault
    (cited_tests scope (seen_words xs) w.now)) c.deref.ensures.value c.cited.ensures.fault in
    ap (one_more (seen c.args.token) ws) (sym told ∙ ap result_err c.in-Ok.is)
    ∙ ap (λ x. Ok x) (sym (ap seen_words c.in_ok-push.ensures.items ∙ one_more_word c.args.numbered.now.labels.items w))
