use Rattle.std.proofs.Common.{arith}
use Rattle.rooms.specs.Rooms.{brought_steps}
use Rattle.rooms.proofs.Largest.{largest_more}
use Rattle.rooms.proofs.longest.longest_of_commands.Goals as goal

pub loop-command-preserved : goal.loop-command-preserved
loop-command-preserved c =
    let more = largest_more brought_steps c.args.commands.now c.loop-command.command-index _ (omega arith) c.command-item.is in
    omega (arith, more, c.loop-command.invariant, c.max-longest.ensures, c.steps_of.ensures)
