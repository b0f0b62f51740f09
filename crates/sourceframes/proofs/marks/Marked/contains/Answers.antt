-- What is left to show of `contains`.
use Rattle.std.proofs.Common.{ap, ◌∙◌, arith}
use Rattle.std.specs.Prelude.{◌==◌}
use Rattle.std.specs.List.{list_any}
use Rattle.sourceframes.proofs.marks.Marked.contains.Goals as goal

pub returns-else-place-len : goal.returns-else-place-len
returns-else-place-len c =
    c.contains.ensures ∙ c.self.invariant.1 c.args.number (omega (arith, c.if-place-len.false, c.len.ensures))
    ∙ ap (list_any (λ v. v == c.args.number)) c.self.view_is
