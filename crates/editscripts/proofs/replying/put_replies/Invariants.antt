-- What the loop of `put_replies` keeps: what became of the transactions so far.
use Rattle.std.proofs.Common.{◌≡◌, ◌++◌, take}
use Rattle.editscripts.specs.Replies.{replies_of}
use Rattle.editscripts.proofs.replying.put_replies.Given as goal

abbrev pub invariant-loop-k : goal.invariant-loop-k
invariant-loop-k l =
    l.out.items ≡ l.fn.out.items ++ replies_of l.told.written l.prelude l.told.path.now l.told.lines.now l.script (take l.k l.outcomes)
