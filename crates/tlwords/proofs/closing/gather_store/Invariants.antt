use Rattle.std.proofs.Common.{◌≡◌, ◌≤◌, length, vec_capacity}
use Rattle.std.specs.Slots.{slots_items}
use Rattle.tlwords.specs.Closing.{IsStoreOf}
use Rattle.tlwords.proofs.closing.gather_store.Given as goal

abbrev pub invariant-loop-offset : goal.invariant-loop-offset
invariant-loop-offset l = IsStoreOf (slots_items l.table.words) l.cells l.closed.items × (length l.closed.items ≡ l.offset)
    × (l.taken ≤ vec_capacity l.closed)
