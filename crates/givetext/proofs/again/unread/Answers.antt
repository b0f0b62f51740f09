-- What is left to show of `unread`: another fault than want of memory is the text's.
use Rattle.std.proofs.Common.{rules}
use Rattle.std.specs.Prelude.{◌≢◌}
use Rattle.mmtext.specs.declared.fault.FaultKind.TheVariants.{NoMemory as OutOfMemory}
use Rattle.givetext.proofs.again.unread.Goals as goal

pub returns-then-ne : goal.returns-then-ne
returns-then-ne g c = λ k source old changes own written faulty.
    let other : c.args.fault.kind ≢ OutOfMemory = search rules in
    (c.args.out.now, written, faulty other)

pub returns-in-None : goal.returns-in-None
returns-in-None g c = λ k source old changes own written faulty.
    let other : c.args.fault.kind ≢ OutOfMemory = search rules in
    (c.args.out.now, written, faulty other)
