-- What is left to show of `found_of`.
use Rattle.sourceframes.proofs.Ordered.{found_on}
use Rattle.sourceframes.proofs.pairs.found_of.Goals as goal

pub loop-pair-preserved : goal.loop-pair-preserved
loop-pair-preserved c =
    found_on c.args.pairs.now c.loop-pair.pair-index c.loop-pair.found c.add.new.found c.loop-pair-test.true c.in_ok-add.ensures
    c.loop-pair.invariant
