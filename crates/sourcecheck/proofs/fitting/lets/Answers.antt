-- What is left to show of `lets`.
use Rattle.std.proofs.Common.{◌∙◌, ◌||◌, ap, sym}
use mathlib.Core.Bool.{not}
use Rattle.sourceframes.specs.Theses.{numbers_apart}
use Rattle.sourcecheck.proofs.fitting.lets.Goals as goal

pub returns-else-not-is_variable : goal.returns-else-not-is_variable
returns-else-not-is_variable c =
    c.are_apart.ensures
    ∙ ap (λ b. not b || numbers_apart c.args.thesis.now c.args.variable c.args.other)
    (sym c.if-not-is_variable.false ∙ c.is_variable.ensures)
