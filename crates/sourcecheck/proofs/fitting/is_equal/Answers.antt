-- What is left to show of `is_equal`.
use Rattle.std.proofs.Common.{◌∙◌, ap, sym}
use Rattle.sourcecheck.specs.Coded.{is_equal}
use Rattle.sourcecheck.proofs.Zipped.{same_as}
use Rattle.sourcecheck.proofs.fitting.is_equal.Goals as goal

pub returns-in-Equal : goal.returns-in-Equal
returns-in-Equal c =
    let es = c.args.arguments.now in
    let h = rw c.as_slice.ensures.value at c.is_filled.ensures in
    same_as c.is_filled.result _ _ h ∙ sym (ap (λ d. is_equal es d c.args.argument.now) c.in-Equal.is)
