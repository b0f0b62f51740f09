use Rattle.std.proofs.Common.{◌≡◌, ◌+◌, length}
use Rattle.sourcewriting.proofs.listing.added_kinds.Given as goal

abbrev pub invariant-loop : goal.invariant-loop
invariant-loop l = length l.kinds.items ≡ l.floats + l.counter
