-- What is left to show of `same_expression`.
use Rattle.std.proofs.Common.{ℕ, List, ◌∙◌, sym}
use Rattle.std.specs.Borrow.{Bor}
use Rattle.std.specs.Str.{bytes_eq}
use Rattle.std.specs.Cmp.Derive.Mapped.{pointwise-map}
use Rattle.explaining.proofs.fitting.same_expression.Goals as goal

pub returns : goal.returns
returns c = c.eq.ensures ∙ sym (pointwise-map (λ (w : Bor (List ℕ)). w.now) bytes_eq c.args.expression.now c.args.other.now)
