-- What the loop of `count_by_place` keeps.
use Rattle.catalog.proofs.Counting.{AreCountedBefore}
use Rattle.catalog.proofs.listing.count_by_place.Given as goal

abbrev pub invariant-loop-place : goal.invariant-loop-place
invariant-loop-place l = AreCountedBefore l.entries l.place l.counts.items l.stamps.items
