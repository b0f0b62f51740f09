use Rattle.std.proofs.Common.{arith, ap}
use Rattle.rooms.specs.Rooms.{brought_steps, largest_by}
use Rattle.rooms.proofs.Largest.{largest_more}
use Rattle.rooms.proofs.longest.longest_of_script.Goals as goal

pub loop-transaction-preserved : goal.loop-transaction-preserved
loop-transaction-preserved c =
    let longest = largest_by brought_steps in
    let items = c.as_slice-transaction-items.result.now in
    let more = largest_more longest items c.loop-transaction.transaction-index _ (omega arith) c.transaction-item.is in
    let inner = ap longest c.as_slice.ensures in
    omega (arith, more, c.loop-transaction.invariant, c.longest_of_commands-longest.ensures, inner)
