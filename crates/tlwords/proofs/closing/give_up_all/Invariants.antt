use Rattle.std.proofs.Common.{◌≡◌, ◌++◌, map, All}
use Rattle.tlwords.specs.Plays.{IsSameSeat}
use Rattle.tlwords.specs.Known.{gone_known}
use Rattle.tlwords.proofs.closing.give_up_all.Given as goal

abbrev pub invariant-loop-pass : goal.invariant-loop-pass
invariant-loop-pass g l =
    IsSameSeat l.fn.seat l.seat × (l.seat.me.0 ≡ record l.fn.seat.me.0 { gone = l.seat.me.0.gone })
    × (map gone_known l.passes.items ++ l.seat.me.0.gone ≡ map gone_known l.fn.passes.items ++ l.fn.seat.me.0.gone)
    × All (λ p. p.home.table ≡ l.table.shared.table_id) l.passes.items

abbrev pub decreases-loop-pass : goal.decreases-loop-pass
decreases-loop-pass g l = goal.left-loop-pass g l
