use Rattle.library.specs.Edits.{listing_line}
use Rattle.cells.specs.Sight.{Looks}
use Rattle.cells.specs.Lookups.{ForEach}
use Rattle.library.specs.declared.command.Command.TheVariants as command
use Rattle.groundwork.specs.Footprints.{ReadsFor}
use Rattle.shows.proofs.Below.{AreToldBelow}
use Rattle.shows.proofs.showing.all_lines.Given as goal

abbrev pub invariant-loop-slot : goal.invariant-loop-slot
invariant-loop-slot g l =
    record {
      looks : Looks (g.C.Cells.sight l.fn.cells) (g.C.Cells.sight l.cells);
      lines : ForEach (g.C.Cells.sight l.cells) (AreToldBelow listing_line (g.C.Cells.sight l.fn.cells).setting.slots l.slot l.lines.items);
      reads : ReadsFor (g.C.Cells.sight l.fn.cells) (g.C.Cells.sight l.cells) command.List;
    }
