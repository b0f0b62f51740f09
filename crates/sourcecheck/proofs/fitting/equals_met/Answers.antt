-- What is left to show of `equals_met`.
use Rattle.std.proofs.Common.{[], get_or, ◌∙◌, ap}
use Rattle.sourcecheck.specs.Coded.{is_equal}
use Rattle.sourcecheck.proofs.Zipped.{met_on, met_off, met_all}
use Rattle.sourcecheck.proofs.fitting.equals_met.Goals as goal

pub loop-place-preserved : goal.loop-place-preserved
loop-place-preserved c =
    met_on (is_equal c.args.arguments.now) c.args.demands.now c.args.arguments.now c.loop-place.place c.index-demands-place.result []
    c.is_equal.result c.loop-place-test.true c.requires
    c.loop-place.invariant (c.is_equal.ensures ∙ ap (is_equal c.args.arguments.now _) c.at.ensures ∙ ap
    (λ d. is_equal c.args.arguments.now d (get_or c.args.arguments.now c.loop-place.place []))
    c.index-demands-place.is) c.if-not-is_equal.false

pub returns-then-not-is_equal : goal.returns-then-not-is_equal
returns-then-not-is_equal c =
    met_off (is_equal c.args.arguments.now) c.args.demands.now c.args.arguments.now c.loop-place.place c.index-demands-place.result []
    c.is_equal.result c.loop-place-test.true c.requires
    c.loop-place.invariant (c.is_equal.ensures ∙ ap (is_equal c.args.arguments.now _) c.at.ensures ∙ ap
    (λ d. is_equal c.args.arguments.now d (get_or c.args.arguments.now c.loop-place.place []))
    c.index-demands-place.is) c.if-not-is_equal.true

pub returns : goal.returns
returns c = met_all (is_equal c.args.arguments.now) c.args.demands.now c.args.arguments.now c.loop-place.place c.loop-place-test.false
    c.loop-place.invariant
