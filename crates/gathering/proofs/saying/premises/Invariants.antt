-- What the loop of `premises` keeps: the expressions so far stand before those of the hypotheses that are left.
use Rattle.std.proofs.Common.{◌≡◌, drop}
use Rattle.taking.specs.Says.{each, premises}
use Rattle.taking.proofs.Symbols.{following}
use Rattle.sites.specs.Given.{given_hypotheses}
use Rattle.gathering.proofs.saying.premises.Given as goal

abbrev pub invariant-loop-hypothesis : goal.invariant-loop-hypothesis
invariant-loop-hypothesis g l =
    each (each (g.P.SymbolPlaces.placed l.places)) (premises (given_hypotheses l.hypotheses))
    ≡ following l.made.items (each (each (g.P.SymbolPlaces.placed l.places)) (premises (given_hypotheses (drop l.hypothesis-index
    l.hypotheses))))
