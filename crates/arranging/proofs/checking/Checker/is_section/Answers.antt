use Rattle.std.proofs.Common.{◌∙◌, sym, ap}
use Rattle.std.specs.List.{list_any}
use Rattle.std.proofs.lemmas.Bool.{not-true}
use Rattle.arranging.specs.Sections.{heads}
use Rattle.arranging.proofs.Known.{parts_between}
use Rattle.arranging.proofs.checking.Checker.is_section.Goals as goal

pub returns-in-Some-clause-same : goal.returns-in-Some-clause-same
returns-in-Some-clause-same c = λ e source old known holds.
    let between =
    c.in-Some.ensures.lookup.0.2
    ∙ parts_between e old c.args.self.now.parts.now known.known.parts_are c.args.first c.args.end in
    ap (list_any heads) (sym between) ∙ (sym c.has_heading.ensures ∙ not-true _ holds)
