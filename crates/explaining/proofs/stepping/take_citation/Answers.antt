-- What is left to show of `take_citation`.
use Rattle.std.proofs.Common.{take}
use Rattle.explaining.specs.Shown.{seen_assertion, seen_stack}
use Rattle.explaining.proofs.Stepped.{names_nothing}
use Rattle.explaining.proofs.stepping.take_citation.Goals as goal

pub returns-in_default : goal.returns-in_default
returns-in_default g c =
    names_nothing (take c.args.place (g.D.Declared.scope c.args.declared.now).assertions) (seen_assertion c.args.theorem.now)
    c.args.label.now (seen_stack c.args.stack.now) c.requires (rw c.in_default.is at c.earlier_place.ensures)
