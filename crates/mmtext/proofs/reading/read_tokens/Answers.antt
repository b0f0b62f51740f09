-- What is left to show of `read_tokens`.
use Rattle.std.proofs.Common.{length, sym, subst, ap, ◌∙◌}
use Rattle.std.proofs.lemmas.Result.{err_from_is_err_and}
use Rattle.mmtext.specs.Languages.{Language, step, finished}
use Rattle.mmtext.specs.Views.{seen, state_at, Fails}
use Rattle.mmtext.proofs.Readings.{goes_on}
use Rattle.mmtext.proofs.Turns.{stopped, ends_open, ends_at}
use Rattle.mmtext.proofs.reading.read_tokens.Goals as goal

pub loop-token-preserved : goal.loop-token-preserved
loop-token-preserved g c =
    let r = g.R.Reader in
    let l = r.language c.args.reader in
    let here = state_at (r.place c.loop-token.reader) c.loop-token.in_comment in
    let after = c.read_token.new in
    let next = state_at (r.place after.reader) after.in_comment in
    let told = c.in_ok-read_token.ensures in
    let kept = c.loop-token.invariant.kept in
    let leads = ap (λ x. step x here (seen c.in-Some.token)) (sym kept) ∙ told.leads in
    record {
      within = c.in-Some.ensures.within;
      ready = told.ready;
      kept = told.same ∙ kept;
      same = goes_on l here next (seen c.in-Some.token) _ _ _ c.in-Some.ensures.some leads c.loop-token.invariant.same;
    }

pub returns-in_err-read_token : goal.returns-in_err-read_token
returns-in_err-read_token g c =
    let r = g.R.Reader in
    let l = r.language c.args.reader in
    let here = state_at (r.place c.loop-token.reader) c.loop-token.in_comment in
    let p = err_from_is_err_and c.from_residual.result c.from_residual.ensures.1 in
    let why = c.in_err-read_token.field-0.0 in
    let fails = subst (λ x. Fails why (step x here (seen c.in-Some.token))) c.loop-token.invariant.kept
    c.in_err-read_token.ensures.leads in
    rw (p.1, p.2) (
    stopped l why c.args.text.now here (seen c.in-Some.token) _ _ c.in-Some.ensures.some fails c.loop-token.invariant.same)

pub returns-then-in_comment : goal.returns-then-in_comment
returns-then-in_comment g c =
    let r = g.R.Reader in
    rw c.unfinished_at.ensures (
    ends_open (r.language c.args.reader) c.args.text.now (r.place c.loop-token.reader) _ _ c.if-in_comment.true c.in_default.ensures.none
    c.loop-token.invariant.same)

pub returns-in-Some-finish : goal.returns-in-Some-finish
returns-in-Some-finish g c =
    let r = g.R.Reader in
    let here = r.place c.loop-token.reader in
    ends_at (r.language c.args.reader) c.args.text.now here _ _ c.if-in_comment.false c.in_default.ensures.none
    c.loop-token.invariant.same
    ∙ ap (λ o. finished (length c.args.text.now) o)
    (ap (λ (x : Language r.Place r.Meaning). x.said here) (sym c.loop-token.invariant.kept) ∙ sym c.in-Some-finish.ensures)

pub returns-in-None : goal.returns-in-None
returns-in-None g c =
    let r = g.R.Reader in
    let here = r.place c.loop-token.reader in
    rw c.unfinished_at-in-None.ensures (
    ends_at (r.language c.args.reader) c.args.text.now here _ _ c.if-in_comment.false c.in_default.ensures.none
    c.loop-token.invariant.same
    ∙ ap (λ o. finished (length c.args.text.now) o)
    (ap (λ (x : Language r.Place r.Meaning). x.said here) (sym c.loop-token.invariant.kept) ∙ sym c.in-None.ensures))
