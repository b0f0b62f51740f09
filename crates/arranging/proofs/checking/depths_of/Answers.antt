use Rattle.std.proofs.Common.{sym, subst, take, ◌+◌}
use Rattle.arranging.specs.Places.{AreDepths}
use Rattle.arranging.proofs.Depths.{now_more, depths_more}
use Rattle.arranging.proofs.checking.depths_of.Goals as goal

pub loop-part-preserved : goal.loop-part-preserved
loop-part-preserved c =
    let i = c.loop-part.part-index in
    let xs = c.args.parts.now in
    let lt = c.loop-part-test.true in
    let was = c.loop-part.depth in
    let o = c.depth_then-depth.result in
    let known = c.loop-part.invariant in
    record {
      depths =
          subst (AreDepths (take (i + 1) xs)) (sym c.in_ok-push-2.ensures.items)
          (depths_more xs i _ lt c.loop-part.depths.items was o known.depths known.now c.depth_then-depth.ensures);
      now = now_more xs i _ lt was o known.now c.depth_then-depth.ensures;
    }
