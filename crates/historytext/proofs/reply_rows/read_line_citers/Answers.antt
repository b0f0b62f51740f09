-- What is left to show of `read_line_citers`.
use Rattle.std.proofs.Common.{ℕ, [], ◌∷◌, ◌++◌, sym, subst}
use Rattle.std.proofs.lemmas.Result.{err_from_is_err_and}
use Rattle.mmtext.specs.Views.{seen, Gives}
use Rattle.historytext.specs.Grammar.{highest_count}
use Rattle.historytext.specs.Places.{Answered, lines_left}
use Rattle.historytext.specs.Views.{answer, seen_answered}
use Rattle.historytext.proofs.Rows.{number_fails, number_leads}
use Rattle.historytext.proofs.reply_rows.read_line_citers.Goals as goal

pub returns-in_err-citers : goal.returns-in_err-citers
returns-in_err-citers c t =
    let u = seen c.args.token in
    let p = err_from_is_err_and c.from_residual.result c.from_residual.ensures.1 in
    let why = c.in_err-citers.field-0.0 in
    rw (p.1, p.2) (number_fails highest_count u
    (λ (n : ℕ). lines_left c.args.left (c.args.lines.items ++ record {
      rank = c.args.rank;
      label = c.args.label;
      kind =
          c.args.kind;
      citers = n;
    } ∷ [])) why c.in_err-citers.ensures)

pub returns : goal.returns
returns c t =
    let u = seen c.args.token in
    subst (λ (a : Answered). Gives (seen_answered t) c.go_on_listing.result (answer u a))
    (sym (number_leads highest_count u (λ (n : ℕ). lines_left c.args.left (c.args.lines.items ++ record {
      rank = c.args.rank;
      label =
          c.args.label;
      kind = c.args.kind;
      citers = n;
    } ∷ [])) c.in_ok-citers.citers c.in_ok-citers.ensures))
    (c.go_on_listing.ensures t u)
