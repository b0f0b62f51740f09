-- What is left to show of `placed_of`.
use Rattle.editscripts.proofs.Placing.{placed_next}
use Rattle.editscripts.proofs.faults.placed_of.Goals as goal

pub loop-fault-preserved : goal.loop-fault-preserved
loop-fault-preserved c =
    placed_next c.args.faults.now c.loop-fault.fault-index _ c.key.result c.loop-fault.placed.entries c.insert.new.self.entries
    c.in_ok-insert.ensures.entries c.loop-fault-test.true c.key.ensures c.loop-fault.invariant
