-- What is left to show of `read_in_reply`.
use Rattle.std.proofs.Common.{ℕ, [], sym, subst}
use Rattle.std.proofs.lemmas.Result.{err_from_is_err_and}
use Rattle.mmtext.specs.Views.{seen, Fails, Gives}
use Rattle.library.specs.Fitting.{highest_rank}
use Rattle.scripts.specs.ScriptFaults.{unit_start}
use Rattle.historytext.specs.declared.place.ReplyPlace.{ReplyPlace}
use Rattle.historytext.specs.Grammar.{highest_count}
use Rattle.historytext.specs.Places.{going, at_shown_citers, in_shown, lines_left, in_reply}
use Rattle.historytext.specs.Views.{answer, seen_answered, seen_reply_place}
use Rattle.historytext.proofs.Rows.{number_fails}
use Rattle.historytext.proofs.reply_rows.read_in_reply.Goals as goal

pub returns-in_err-rank-in-AtShownRank : goal.returns-in_err-rank-in-AtShownRank
returns-in_err-rank-in-AtShownRank c =
    let t = c.args.prelude.now in
    let u = seen c.args.token in
    let r = c.from_residual in
    let p = err_from_is_err_and r.result r.ensures.1 in
    let why = c.in_err-rank-in-AtShownRank.field-0.0 in
    rw (p.1, p.2) (
    subst (λ (x : ReplyPlace). Fails why (answer u (in_reply t (seen_reply_place t x) u))) (sym c.in-AtShownRank.is)
    (number_fails highest_rank u (λ (n : ℕ). going (at_shown_citers n)) why c.in_err-rank-in-AtShownRank.ensures))

pub returns-in_err-citers-in-AtShownCiters : goal.returns-in_err-citers-in-AtShownCiters
returns-in_err-citers-in-AtShownCiters c =
    let t = c.args.prelude.now in
    let u = seen c.args.token in
    let r = c.from_residual-in_err-citers-in-AtShownCiters in
    let p = err_from_is_err_and r.result r.ensures.1 in
    let why = c.in_err-citers-in-AtShownCiters.field-0.0 in
    rw (p.1, p.2) (
    subst (λ (x : ReplyPlace). Fails why (answer u (in_reply t (seen_reply_place t x) u))) (sym c.in-AtShownCiters.is)
    (number_fails highest_count u (λ (n : ℕ). going
    (in_shown c.in-AtShownCiters.rank n (unit_start t))) why c.in_err-citers-in-AtShownCiters.ensures))

pub returns-in_err-left-in-AtLines : goal.returns-in_err-left-in-AtLines
returns-in_err-left-in-AtLines c =
    let t = c.args.prelude.now in
    let u = seen c.args.token in
    let r = c.from_residual-in_err-left-in-AtLines in
    let p = err_from_is_err_and r.result r.ensures.1 in
    let why = c.in_err-left-in-AtLines.field-0.0 in
    rw (p.1, p.2) (
    subst (λ (x : ReplyPlace). Fails why (answer u (in_reply t (seen_reply_place t x) u))) (sym c.in-AtLines.is)
    (number_fails highest_count u (λ (n : ℕ). lines_left n []) why c.in_err-left-in-AtLines.ensures))

pub returns-in-AtLine : goal.returns-in-AtLine
returns-in-AtLine c =
    let t = c.args.prelude.now in
    let u = seen c.args.token in
    subst (λ (x : ReplyPlace). Gives (seen_answered t) c.read_line_rank.result (answer u (in_reply t (seen_reply_place t x) u)))
    (sym c.in-AtLine.is) (c.read_line_rank.ensures t)

pub returns-in-AtLabel : goal.returns-in-AtLabel
returns-in-AtLabel c =
    let t = c.args.prelude.now in
    let u = seen c.args.token in
    subst (λ (x : ReplyPlace). Gives (seen_answered t) c.read_line_label.result (answer u (in_reply t (seen_reply_place t x) u)))
    (sym c.in-AtLabel.is) (c.read_line_label.ensures t)

pub returns-in-AtKind : goal.returns-in-AtKind
returns-in-AtKind c =
    let t = c.args.prelude.now in
    let u = seen c.args.token in
    subst (λ (x : ReplyPlace). Gives (seen_answered t) c.read_line_kind.result (answer u (in_reply t (seen_reply_place t x) u)))
    (sym c.in-AtKind.is) (c.read_line_kind.ensures t)

pub returns-in-AtCiters : goal.returns-in-AtCiters
returns-in-AtCiters c =
    let t = c.args.prelude.now in
    let u = seen c.args.token in
    subst (λ (x : ReplyPlace). Gives (seen_answered t) c.read_line_citers.result (answer u (in_reply t (seen_reply_place t x) u)))
    (sym c.in-AtCiters.is) (c.read_line_citers.ensures t)
