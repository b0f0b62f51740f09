use Rattle.std.proofs.Common.{[], sym, ◌∙◌}
use Rattle.stepcheck.proofs.Replaced.{piece-found}
use Rattle.stepcheck.proofs.substitutes.piece.Goals as goal

pub returns-in-Some : goal.returns-in-Some
returns-in-Some c =
    piece-found c.args.substitution.now c.args.symbol.now c.in-Var.j c.at.result.now (sym c.symbol.ensures ∙ c.in-Var.is)
    (c.in-Some.ensures.1 (0, []) ∙ sym (c.at.ensures (0, [])))
