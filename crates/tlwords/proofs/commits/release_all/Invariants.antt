use Rattle.tlwords.specs.Plays.{IsSameSeat}
use Rattle.tlwords.specs.Committing.{Releasing}
use Rattle.tlwords.specs.Walks.{low_of}
use Rattle.tlwords.proofs.commits.release_all.Given as goal

abbrev pub invariant-loop-i : goal.invariant-loop-i
invariant-loop-i g l =
    IsSameSeat l.fn.seat l.seat × Releasing g.L.Law.terms l.log.slots l.high l.new (low_of l.log.writes.items l.i) l.fn.seat.me l.seat.me
