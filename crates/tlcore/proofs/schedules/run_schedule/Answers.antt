-- The front grows by one lawful event, and stops at the first that isn't.
use Rattle.std.proofs.Common.{arith, sym, ◌∙◌}
use Rattle.tlcore.proofs.Fronts.{front_more, front_stops, front_whole, read_here}
use Rattle.tlcore.proofs.schedules.run_schedule.Goals as goal

pub returns-in-None : goal.returns-in-None
returns-in-None c =
    rw c.loop-event.invariant.counted
    (front_stops c.args.world.now c.loop-event.now c.args.events.now c.loop-event.event-index _ c.loop-event.invariant.ran
    (read_here c.args.events.now c.loop-event.event-index _ c.loop-event-test.true) (sym (c.in_ok-next.ensures {u = tt}) ∙ c.in-None.is))

pub loop-event-preserved : goal.loop-event-preserved
loop-event-preserved c =
    record {
      counted = omega (arith, c.loop-event.invariant.counted);
      ran =
          front_more c.args.world.now c.loop-event.now c.in-Some.next c.args.events.now c.loop-event.event-index _
          c.loop-event.invariant.ran
          (read_here c.args.events.now c.loop-event.event-index _ c.loop-event-test.true)
          (sym (c.in_ok-next.ensures {u = tt}) ∙ c.in-Some.is);
    }

pub returns : goal.returns
returns c =
    rw c.loop-event.invariant.counted (front_whole c.args.world.now c.loop-event.now c.args.events.now c.loop-event.event-index
    c.loop-event.invariant.ran (omega (arith, c.loop-event.auto.event-index-end, c.loop-event-test.false)))
