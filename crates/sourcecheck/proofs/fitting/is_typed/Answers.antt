-- What is left to show of `is_typed`.
use Rattle.std.proofs.Common.{◌∙◌, ap, sym}
use Rattle.sourcecheck.specs.Coded.{is_typed}
use Rattle.sourcecheck.proofs.fitting.is_typed.Goals as goal

pub returns-in-Typed : goal.returns-in-Typed
returns-in-Typed c = c.begins_with.ensures ∙ sym (ap (λ d. is_typed d c.args.argument.now) c.in-Typed.is)
