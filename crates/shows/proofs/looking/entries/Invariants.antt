use Rattle.cells.specs.Sight.{Looks}
use Rattle.cells.specs.Lookups.{ForEach}
use Rattle.shows.proofs.Below.{itself, AreToldBelow}
use Rattle.shows.proofs.looking.entries.Given as goal

abbrev pub invariant-loop-slot : goal.invariant-loop-slot
invariant-loop-slot g l =
    record {
      looks : Looks (g.C.Cells.sight l.fn.cells) (g.C.Cells.sight l.cells);
      entries : ForEach (g.C.Cells.sight l.cells) (AreToldBelow itself (g.C.Cells.sight l.fn.cells).setting.slots l.slot l.entries.items);
    }
