-- What the loop of `push_where` keeps: of the arguments so far those that are wanted stand at the end.
use Rattle.std.proofs.Common.{◌≡◌, ◌++◌, length, take}
use Rattle.taking.specs.Walks.{picked}
use Rattle.taking.proofs.listing.push_where.Given as goal

abbrev pub invariant-loop-argument : goal.invariant-loop-argument
invariant-loop-argument l =
    l.pending.items ≡ l.initial.pending.items ++ picked l.wanted (take (length l.yielded) l.floats) (take (length l.yielded) l.arguments)
