use Rattle.plaincells.specs.Opening.{CellsOpen, front}
use Rattle.plaincells.proofs.plain.PlainCells.open.Given as goal

abbrev pub invariant-loop-index : goal.invariant-loop-index
invariant-loop-index l = CellsOpen (front l.index l.database) l.slots l.room l.cells
