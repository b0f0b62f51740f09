-- What the loop of `put_undone` keeps: the lines of the transactions so far.
use Rattle.std.proofs.Common.{◌≡◌, ◌++◌, take, map}
use Rattle.std.specs.Prelude.{string_bytes}
use Rattle.editscripts.specs.Undone.{undone_of}
use Rattle.editscripts.proofs.lacking.put_undone.Given as goal

abbrev pub invariant-loop-k : goal.invariant-loop-k
invariant-loop-k l =
    map string_bytes l.said.items ≡ map string_bytes l.fn.said.items ++ undone_of l.path l.lines l.script (take l.k l.outcomes)
