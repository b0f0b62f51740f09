use Rattle.arranging.proofs.Depths.{open_more}
use Rattle.arranging.proofs.checking.open_behind.Goals as goal

pub loop-part-preserved : goal.loop-part-preserved
loop-part-preserved c =
    open_more c.args.parts.now c.loop-part.part-index _ c.loop-part-test.true c.loop-part.depth c.in_ok-depth.depth
    c.loop-part.invariant c.in_ok-depth.ensures
