use Rattle.std.proofs.Common.{arith}
use Rattle.rooms.specs.Rooms.{brought_steps, largest_by}
use Rattle.rooms.proofs.Largest.{largest_more}
use Rattle.rooms.proofs.longest.longest_in.Goals as goal

pub loop-script-preserved : goal.loop-script-preserved
loop-script-preserved c =
    let longest = largest_by (largest_by brought_steps) in
    let more = largest_more longest c.args.scripts.now c.loop-script.script-index _ (omega arith) c.script-item.is in
    omega (arith, more, c.loop-script.invariant, c.longest_of_script-longest.ensures)
