-- What is left to show of `name_label`.
use Rattle.std.proofs.Common.{◌∙◌, sym}
use Rattle.prooftrees.proofs.Cases.{if_both}
use Rattle.prooftrees.proofs.Named.{named_hypothesis}
use Rattle.prooftrees.proofs.naming.name_label.Goals as goal

pub returns-in-Some-clause-named : goal.returns-in-Some-clause-named
returns-in-Some-clause-named g c =
    let w = c.args.label.now in
    if_both c.name_hypothesis.result
    (λ named floats step. λ earlier active are enough known.
    named_hypothesis earlier active w (g.P.StepPlaces.places c.args.places.now) c.in-Some.role named
    (enough.own w c.in-Some.role (sym c.role.ensures ∙ c.in-Some.is)) floats step)
    c.name_hypothesis.ensures.floats c.name_hypothesis.ensures.step
