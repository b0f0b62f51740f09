use Rattle.tlcore.specs.Machine.{in_phase}
use Rattle.tlcore.specs.declared.seats.Phase.TheVariants.{Checking}
use Rattle.tlwords.specs.Plays.{IsSameSeat}
use Rattle.tlwords.specs.Committing.{Goes}
use Rattle.tlwords.specs.Walks.{low_of}
use Rattle.tlwords.proofs.commits.check_all.Given as goal

abbrev pub invariant-loop-i : goal.invariant-loop-i
invariant-loop-i g l =
    IsSameSeat l.fn.seat l.seat
    × Goes g.L.Law.terms l.fn.seat.me (in_phase l.fn.seat.me.0.seat (Checking l.index (low_of l.log.checks.items l.i))) l.seat.me
