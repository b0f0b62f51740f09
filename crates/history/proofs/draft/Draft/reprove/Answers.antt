use Rattle.std.proofs.Common.{Some, Ok, set, refl, sym, ap, subst, ◌∙◌}
use Rattle.std.proofs.lemmas.Result.{err_from_is_err_and}
use Rattle.library.specs.Edits.{done, with_proof}
use Rattle.catalog.specs.Entries.{Entries, living, StandsIn}
use Rattle.catalog.proofs.Covering.{covers-replaced}
use Rattle.history.proofs.draft.Draft.reprove.Goals as goal

pub replace-requires-clause-covered : goal.replace-requires-clause-covered
replace-requires-clause-covered c =
    let next = c.cite.new.self in
    let cited = c.in_ok-cite.ensures in
    let steps = c.args.steps.now in
    let tried = c.in_ok-place.ensures.passed in
    let p = c.in_ok-place.place in
    let at_p : StandsIn next.entries p tried.former = subst (λ es. StandsIn es p tried.former) (sym cited.entries) tried.at in
    rw tried.made
    (covers-replaced next.citers next.entries p (with_proof steps tried.former) cited.covered tried.former at_p refl
    (λ r x at_r here. cited.entered.entered r x at_r here))

pub returns-in_err-place-clause-taken : goal.returns-in_err-place-clause-taken
returns-in_err-place-clause-taken c =
    let p = err_from_is_err_and c.from_residual.result c.from_residual.ensures.1 in
    rw (p.1, p.2) c.in_err-place.ensures.refused

pub returns-clause-taken : goal.returns-clause-taken
returns-clause-taken c =
    let tried = c.in_ok-place.ensures.passed in
    let p = c.in_ok-place.place in
    let now =
    c.in_ok-replace.ensures.done.entries ∙ ap (λ (es : Entries). set es p (Some c.in_ok-place.new)) c.in_ok-cite.ensures.entries in
    tried.taken ∙ ap (λ es. Ok (done (living es))) (sym now)
