use Rattle.std.proofs.Common.{◌≡◌, ◌≤◌, length, vec_capacity}
use Rattle.std.specs.Slots.{slots_items}
use Rattle.tlwords.specs.Closing.{AreCellsOf}
use Rattle.tlwords.proofs.closing.gather_cells.Given as goal

abbrev pub invariant-loop-cell : goal.invariant-loop-cell
invariant-loop-cell l = AreCellsOf (slots_items l.table.words) l.closed.items × (length l.closed.items ≡ l.cell)
    × (l.cells ≤ vec_capacity l.closed)
