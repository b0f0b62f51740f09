use Rattle.tlwords.specs.Plays.{IsSameSeat}
use Rattle.tlwords.specs.Walks.{low_of}
use Rattle.tlwords.proofs.Stores.{StoresSoFar}
use Rattle.tlwords.proofs.commits.store_all.Given as goal

abbrev pub invariant-loop-i : goal.invariant-loop-i
invariant-loop-i g l =
    IsSameSeat l.fn.seat l.seat × StoresSoFar g.L.Law.terms l.log.slots l.index l.note l.fn.seat.me (low_of l.log.writes.items l.i)
    l.seat.me
