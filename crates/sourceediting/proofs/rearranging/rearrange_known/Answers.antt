-- What is left to show of `rearrange_known`.
use Rattle.std.proofs.lemmas.Result.{err_from_is_err_and}
use Rattle.sourceediting.specs.Views.{seen_living}
use Rattle.sourceediting.proofs.rearranging.rearrange_known.Goals as goal

pub returns-in_err-texts-clause-refused : goal.returns-in_err-texts-clause-refused
returns-in_err-texts-clause-refused g c =
    let p = err_from_is_err_and c.from_residual-in_err-texts.result c.from_residual-in_err-texts.ensures.1 in
    rw (p.1, p.2) (c.in_err-texts.ensures.refused (seen_living c.args.edits.now.planned.living.now) c.args.known.now.text.now)
