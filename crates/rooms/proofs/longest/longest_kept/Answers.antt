use Rattle.std.proofs.Common.{arith}
use Rattle.rooms.specs.Rooms.{proof_steps}
use Rattle.rooms.proofs.Largest.{largest_more}
use Rattle.rooms.proofs.longest.longest_kept.Goals as goal

pub loop-assertion-preserved : goal.loop-assertion-preserved
loop-assertion-preserved c =
    let more = largest_more proof_steps c.args.assertions.now c.loop-assertion.assertion-index _ (omega arith) c.assertion-item.is in
    omega (arith, more, c.loop-assertion.invariant, c.max-longest.ensures, c.len.ensures.len)
