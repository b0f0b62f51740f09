use Rattle.tlwords.specs.Plays.{IsSameSeat}
use Rattle.tlwords.proofs.Fillings.{Filled}
use Rattle.tlwords.proofs.store.fill_all.Given as goal

abbrev pub invariant-loop-i : goal.invariant-loop-i
invariant-loop-i g l = IsSameSeat l.fn.seat l.seat × Filled g.L.Law.terms l.range l.start l.fn.seat.me l.i l.seat.me
