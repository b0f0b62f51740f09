use Rattle.tlwords.proofs.Entries.{dropped_all}
use Rattle.std.proofs.Common.{arith}
use Rattle.tlwords.proofs.slots.drop_values.Goals as goal

pub returns : goal.returns
returns c = dropped_all c.args.entries.now c.loop-i.entries c.loop-i.i (let a = c.loop-i-test.false in let b = c.loop-i.auto.entries in
    omega arith) c.loop-i.invariant
