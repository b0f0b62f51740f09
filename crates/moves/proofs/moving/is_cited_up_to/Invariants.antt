use Rattle.cells.specs.Sight.{Looks}
use Rattle.cells.specs.Lookups.{ForEach}
use Rattle.cells.specs.Footprints.{ReadsWhere}
use Rattle.groundwork.specs.Footprints.{IsOfRanks}
use Rattle.moves.proofs.Citers.{AreUncited}
use Rattle.moves.proofs.moving.is_cited_up_to.Given as goal

abbrev pub invariant-loop-other : goal.invariant-loop-other
invariant-loop-other g l =
    record {
      looks : Looks (g.C.Cells.sight l.initial.cells) (g.C.Cells.sight l.cells);
      reads : ReadsWhere (IsOfRanks (g.C.Cells.sight l.fn.cells).setting.slots l.current l.limit) (g.C.Cells.sight l.initial.cells)
          (g.C.Cells.sight l.cells);
      uncited : ForEach (g.C.Cells.sight l.cells) (AreUncited (g.C.Cells.sight l.fn.cells).setting.slots l.slot l.limit l.other);
    }
