-- A lawful step keeps the invariant.
use Rattle.tlcore.specs.Steps.{world_of}
use Rattle.tlcore.proofs.Stepping.{reachable_next}
use Rattle.tlcore.proofs.machine.step.Goals as goal

pub invariant_of-after : goal.invariant_of-after
invariant_of-after c =
    reachable_next (world_of c.after.inside.cells.items c.after.inside.seats.items c.after.inside.history.items)
    (world_of c.advance.new.cells.items c.advance.new.seats.items c.advance.new.history.items)
    c.args.seat c.args.action c.after.invariant
    (rw c.if-branch.true at (c.in_ok-advance.ensures {u = tt}))
