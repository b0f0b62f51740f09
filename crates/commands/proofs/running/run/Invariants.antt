use Rattle.std.proofs.Common.{take}
use Rattle.cells.specs.Sight.{Onward, TakesAtMost}
use Rattle.cells.specs.Answers.{ForEachBefore, DoesAll}
use Rattle.commands.specs.Takes.{most_words_of}
use Rattle.commands.specs.Touches.{PassesAll, KeepsToAll}
use Rattle.commands.specs.Footprints.{ReadsForAll}
use Rattle.commands.proofs.running.run.Given as goal

abbrev pub invariant-loop-done : goal.invariant-loop-done
invariant-loop-done g l =
    record {
      onward : Onward (g.C.Cells.sight l.fn.cells) (g.C.Cells.sight l.cells);
      taken : ForEachBefore (g.C.Cells.sight l.fn.cells) (g.C.Cells.sight l.cells)
          (λ st lib. TakesAtMost (most_words_of (take l.done l.commands)) (g.C.Cells.sight l.fn.cells) (g.C.Cells.sight l.cells));
      does : DoesAll (g.C.Cells.sight l.fn.cells) (g.C.Cells.sight l.cells) (take l.done l.commands) l.replies.items;
      passes : PassesAll (g.C.Cells.sight l.fn.cells) (take l.done l.commands) (g.C.Cells.sight l.cells);
      keeps : KeepsToAll (g.C.Cells.sight l.fn.cells) (g.C.Cells.sight l.cells) (take l.done l.commands);
      reads : ReadsForAll (g.C.Cells.sight l.fn.cells) (g.C.Cells.sight l.cells) (take l.done l.commands);
    }
