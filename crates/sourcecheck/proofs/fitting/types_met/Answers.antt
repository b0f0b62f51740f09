-- What is left to show of `types_met`.
use Rattle.std.proofs.Common.{[], get_or, ◌∙◌, ap}
use Rattle.sourcecheck.specs.Coded.{is_typed}
use Rattle.sourcecheck.proofs.Zipped.{met_on, met_off, met_all}
use Rattle.sourcecheck.proofs.fitting.types_met.Goals as goal

pub loop-place-preserved : goal.loop-place-preserved
loop-place-preserved c =
    met_on is_typed c.args.demands.now c.args.arguments.now c.loop-place.place c.index-demands-place.result [] c.is_typed.result
    c.loop-place-test.true c.requires
    c.loop-place.invariant (c.is_typed.ensures ∙ ap (is_typed _) c.at.ensures ∙ ap
    (λ d. is_typed d (get_or c.args.arguments.now c.loop-place.place [])) c.index-demands-place.is) c.if-not-is_typed.false

pub returns-then-not-is_typed : goal.returns-then-not-is_typed
returns-then-not-is_typed c =
    met_off is_typed c.args.demands.now c.args.arguments.now c.loop-place.place c.index-demands-place.result [] c.is_typed.result
    c.loop-place-test.true c.requires
    c.loop-place.invariant (c.is_typed.ensures ∙ ap (is_typed _) c.at.ensures ∙ ap
    (λ d. is_typed d (get_or c.args.arguments.now c.loop-place.place [])) c.index-demands-place.is) c.if-not-is_typed.true

pub returns : goal.returns
returns c = met_all is_typed c.args.demands.now c.args.arguments.now c.loop-place.place c.loop-place-test.false c.loop-place.invariant
