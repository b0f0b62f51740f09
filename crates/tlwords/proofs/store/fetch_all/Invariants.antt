use Rattle.std.proofs.Common.{◌≡◌, ◌+◌, ◌≤◌, vec_len, vec_capacity}
use Rattle.tlwords.specs.Plays.{IsSameSeat}
use Rattle.tlwords.specs.Runs.{Fetched}
use Rattle.tlwords.proofs.store.fetch_all.Given as goal

abbrev pub invariant-loop-index : goal.invariant-loop-index
invariant-loop-index g l =
    IsSameSeat l.fn.seat l.seat
    × Fetched g.L.Law.terms l.range l.index l.fn.seat.me l.seat.me l.fn.fetched.items l.fetched.items
    × (vec_len l.fetched ≡ vec_len l.fn.fetched + l.index)
    × (vec_len l.fn.fetched + l.range.len ≤ vec_capacity l.fetched)
