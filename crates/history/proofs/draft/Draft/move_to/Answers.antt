use Rattle.std.proofs.Common.{Ok, sym, ap, ◌∙◌}
use Rattle.std.proofs.lemmas.Result.{err_from_is_err_and}
use Rattle.library.specs.Edits.{done}
use Rattle.catalog.specs.Entries.{living}
use Rattle.history.proofs.draft.Draft.move_to.Goals as goal

pub returns-in_err-place-clause-taken : goal.returns-in_err-place-clause-taken
returns-in_err-place-clause-taken c =
    let p = err_from_is_err_and c.from_residual.result c.from_residual.ensures.1 in
    rw (p.1, p.2) c.in_err-place.ensures.refused

pub returns-clause-taken : goal.returns-clause-taken
returns-clause-taken c =
    c.in_ok-place.ensures.passed.taken ∙ ap (λ es. Ok (done (living es))) (sym c.in_ok-replace.ensures.done.entries)
