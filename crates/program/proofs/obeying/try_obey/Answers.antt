use Rattle.std.proofs.Common.{◌≡◌, ◌∙◌, ap, map, subst, true}
use Rattle.std.specs.Prelude.{is_some, string_bytes}
use Rattle.clap.specs.Words.{App, HasKind, app_of, fault_of, is_simple, is_simple_and_free, subcommand_of, subcommand_rows_of}
use Rattle.program.proofs.Ordered.{matched, usage}
use Rattle.program.proofs.obeying.try_obey.Goals as goal

pub returns-in-Ok-try_get_matches_from : goal.returns-in-Ok-try_get_matches_from
returns-in-Ok-try_get_matches_from g c =
    let words = map string_bytes c.args.words.now in
    let matches = c.in-Ok-try_get_matches_from.matches in
    let app = c.in-Ok.ensures.0 in
    let simple : is_simple (app_of c.in-Ok.line) ≡ true = ap is_simple app in
    let rows = (c.in-Ok-try_get_matches_from.ensures.matches simple).1 ∙ ap (λ (a : App). subcommand_of a words) app in
    let done = c.obey_matches.ensures in
    (done.0, done.1, matched (is_some c.args.keys) words (subcommand_rows_of matches) done.0 c.obey_matches.result rows done.2)

pub returns-in-Err : goal.returns-in-Err
returns-in-Err g c =
    let words = map string_bytes c.args.words.now in
    let app = c.in-Ok.ensures.0 in
    let simple : is_simple_and_free (app_of c.in-Ok.line) ≡ true = ap is_simple_and_free app in
    let kind = subst (λ (a : App). HasKind (fault_of a words) c.in-Err.error) app (c.in-Err.ensures.kinds simple) in
    let done = c.tell_usage.ensures in
    (done.0, done.1, usage (is_some c.args.keys) words c.in-Err.error done.0 c.tell_usage.result kind done.2)
