use Rattle.std.specs.Prelude.{None, []}
use Rattle.tlcore.specs.declared.seats.Phase.TheVariants.{Reading, Taking}
use Rattle.tlwords.specs.Plays.{IsSameSeat}
use Rattle.tlwords.specs.Committing.{held_in, locking, Goes}
use Rattle.tlwords.specs.Walks.{low_of}
use Rattle.tlwords.proofs.commits.take_all.Given as goal

abbrev pub invariant-loop-i : goal.invariant-loop-i
invariant-loop-i g l =
    IsSameSeat l.fn.seat l.seat
    × Goes g.L.Law.terms l.fn.seat.me (locking l.fn.seat.me.0.seat Taking Reading
    (held_in l.log.slots 0 0 (low_of l.log.writes.items l.i))) l.seat.me

abbrev pub ghosts-take : goal.ghosts-take
ghosts-take g a = record { value = a.value; note = None; words = [] }
