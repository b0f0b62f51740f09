use Rattle.finishing.proofs.Putting.{ordered_next}
use Rattle.finishing.proofs.ordering.in_order.Goals as goal

pub loop-own-preserved : goal.loop-own-preserved
loop-own-preserved c =
    let steps = c.in-Some.ensures.steps in
    ordered_next c.args.clock _ _ _ _ _ c.in-Some.own _ _ c.loop-own.invariant steps.0 steps.1 c.put_all.ensures
