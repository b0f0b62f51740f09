-- What is left to show of `move_on`.
use Rattle.std.proofs.lemmas.Result.{err_from_is_err_and}
use Rattle.mmtext.specs.Views.{seen, state_at}
use Rattle.mmtext.proofs.Turns.{skipped, read_on, turn_stops, row_stops}
use Rattle.mmtext.proofs.reading.move_on.Goals as goal

pub returns-in-Skipped-clause-leads : goal.returns-in-Skipped-clause-leads
returns-in-Skipped-clause-leads g c =
    let r = g.R.Reader in
    let here = state_at (r.place c.args.reader.now) c.args.in_comment.now in
    skipped (r.language c.args.reader.now) here (seen c.args.token) _ _ _ c.mark_word-mark.ensures c.in_ok-open.ensures c.in-Skipped.is

pub returns-in_ok-take-in-Read-clause-leads : goal.returns-in_ok-take-in-Read-clause-leads
returns-in_ok-take-in-Read-clause-leads g c =
    let r = g.R.Reader in
    let here = state_at (r.place c.args.reader.now) c.args.in_comment.now in
    read_on (r.language c.args.reader.now) here (seen c.args.token) _ _ _ c.mark_word-mark.ensures c.in_ok-open.ensures c.in-Read.is
    c.in_ok-take-in-Read.ensures.leads

pub returns-in_err-open-clause-leads : goal.returns-in_err-open-clause-leads
returns-in_err-open-clause-leads g c =
    let r = g.R.Reader in
    let here = state_at (r.place c.args.reader.now) c.args.in_comment.now in
    let p = err_from_is_err_and c.from_residual.result c.from_residual.ensures.1 in
    rw (p.1, p.2) (
    turn_stops (r.language c.args.reader.now) here (seen c.args.token) _ c.in_err-open.field-0.0 c.mark_word-mark.ensures
    c.in_err-open.ensures)

pub returns-in_err-take-in-Read-clause-leads : goal.returns-in_err-take-in-Read-clause-leads
returns-in_err-take-in-Read-clause-leads g c =
    let r = g.R.Reader in
    let here = state_at (r.place c.args.reader.now) c.args.in_comment.now in
    let stop = c.from_residual-in_err-take-in-Read in
    let p = err_from_is_err_and stop.result stop.ensures.1 in
    rw (p.1, p.2) (
    row_stops (r.language c.args.reader.now) here (seen c.args.token) _ _ c.in_err-take-in-Read.field-0.0 c.mark_word-mark.ensures
    c.in_ok-open.ensures c.in-Read.is c.in_err-take-in-Read.ensures.leads)
