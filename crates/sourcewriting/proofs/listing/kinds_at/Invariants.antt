use Rattle.std.proofs.Common.{◌≡◌, length}
use Rattle.sourcewriting.proofs.listing.kinds_at.Given as goal

abbrev pub invariant-loop-hypothesis : goal.invariant-loop-hypothesis
invariant-loop-hypothesis g l = length l.kinds.items ≡ length l.yielded
