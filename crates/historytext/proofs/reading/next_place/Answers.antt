use Rattle.std.proofs.Common.{sym, subst}
use Rattle.std.proofs.lemmas.Result.{err_from_is_err_and}
use Rattle.mmtext.specs.Views.{seen, Fails}
use Rattle.historytext.specs.declared.place.Place.{Place}
use Rattle.historytext.specs.Places.{in_place}
use Rattle.historytext.specs.Views.{seen_place}
use Rattle.historytext.proofs.Rows.{count_fails}
use Rattle.historytext.proofs.reading.next_place.Goals as goal

pub returns-in_err-read_count-in-AtCount : goal.returns-in_err-read_count-in-AtCount
returns-in_err-read_count-in-AtCount c =
    let t = c.args.prelude.now in
    let entries = c.args.entries.now.items in
    let u = seen c.args.token in
    let r = c.from_residual in
    let p = err_from_is_err_and r.result r.ensures.1 in
    let why = c.in_err-read_count-in-AtCount.field-0.0 in
    rw (p.1, p.2) (
    subst (λ (x : Place). Fails why (in_place t entries (seen_place t x) u)) (sym c.in-AtCount.is)
    (count_fails entries u why c.in_err-read_count-in-AtCount.ensures))
