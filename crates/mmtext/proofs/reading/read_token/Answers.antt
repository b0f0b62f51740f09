-- What is left to show of `read_token`.
use Rattle.std.proofs.Common.{Ok, subst}
use Rattle.std.proofs.lemmas.Result.{err_from_is_err_and}
use Rattle.mmtext.specs.Takings.{TakesWord}
use Rattle.mmtext.specs.Views.{seen}
use Rattle.mmtext.proofs.Turns.{word_leads, word_stops}
use Rattle.mmtext.proofs.reading.read_token.Goals as goal

pub returns-then-branch-clause-leads : goal.returns-then-branch-clause-leads
returns-then-branch-clause-leads g c =
    let r = g.R.Reader in
    let l = r.language c.args.reader.now in
    let p = r.place c.args.reader.now in
    let q = r.place c.take_word.new.self in
    word_leads l p q c.args.in_comment.now (seen c.args.token) c.if-not-in_comment.true
    (subst (λ b. TakesWord l p (seen c.args.token) q (Ok b)) c.if-branch.true c.in_ok-take_word.ensures.taken)

pub returns-in_err-take_word-clause-leads : goal.returns-in_err-take_word-clause-leads
returns-in_err-take_word-clause-leads g c =
    let r = g.R.Reader in
    let l = r.language c.args.reader.now in
    let why = c.in_err-take_word.field-0.0 in
    let p = err_from_is_err_and c.from_residual.result c.from_residual.ensures.1 in
    rw (p.1, p.2) (
    word_stops l (r.place c.args.reader.now) (r.place c.args.reader.now) c.args.in_comment.now
    (seen c.args.token) why c.if-not-in_comment.true
    c.in_err-take_word.ensures.taken)
