use Rattle.std.proofs.Common.{◌∙◌, sym}
use Rattle.std.proofs.lemmas.Bool.{not-true}
use Rattle.arranging.proofs.Known.{free_there}
use Rattle.arranging.proofs.checking.Checker.is_free.Goals as goal

pub returns-then-is_outermost : goal.returns-then-is_outermost
returns-then-is_outermost c = λ e source old known apart.
    free_there e old c.args.self.now.parts.now known.known.parts_are c.args.place c.in-Some.before.now c.in-Some.ensures.lookup.0.1
    c.in-Some.ensures.lookup.0.2 (c.is_outermost.ensures e source old known c.if-is_outermost.true)
    (sym c.ends_described.ensures ∙ not-true _ apart)
