-- The opening world meets the invariant.
use Rattle.std.proofs.Common.{rules}
use Rattle.tlcore.proofs.Stepping.{start_reachable}
use Rattle.tlcore.proofs.machine.World.open.Goals as goal

pub invariant_of-result : goal.invariant_of-result
invariant_of-result c =
    start_reachable c.args.values.now c.args.seats c.in_ok-cells.cells.items c.in_ok-seats.seats.items c.new.result.items
    (search rules) (search rules) (search rules)
