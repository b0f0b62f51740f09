use Rattle.std.proofs.Common.{◌≡◌, length, All, map}
use Rattle.ranges.specs.Ranges.{ranges_named}
use Rattle.tlwords.specs.Runs.{down, dealer}
use Rattle.tlwords.specs.Calls.{IsDealt}
use Rattle.tlwords.proofs.opening.deal_all.Given as goal

abbrev pub invariant-loop : goal.invariant-loop
invariant-loop g l =
    (l.seat.table_id ≡ l.words.table.shared.table_id)
    × (l.seat.me.0 ≡ dealer l.setting l.values l.words.room
    (ranges_named (g.L.Law.terms.ranged l.setting) l.store l.values) l.sessions l.counter)
    × (length l.passes.items ≡ l.counter)
    × All (λ p. IsDealt l.setting l.values l.words.room
    (ranges_named (g.L.Law.terms.ranged l.setting) l.store l.values) l.words.table.shared.table_id p) l.passes.items
    × (map (λ p. p.name) l.passes.items ≡ down l.sessions l.counter)
