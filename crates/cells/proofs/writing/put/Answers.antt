use Rattle.cells.proofs.Sights.{onward_trans, writes_onward, writes_cell}
use Rattle.cells.proofs.Keeping.{keeps_put}
use Rattle.cells.proofs.Asking.{nothing_written, asks_still}
use Rattle.cells.proofs.writing.put.Goals as goal

pub returns-clause-onward : goal.returns-clause-onward
returns-clause-onward g c = onward_trans _ _ _ c.in_ok-read.ensures.ok.looks.onward (writes_onward _ _ _ _ c.write.ensures)

pub returns-clause-written : goal.returns-clause-written
returns-clause-written g c = writes_cell _ _ _ _ c.write.ensures

pub returns-clause-keeps : goal.returns-clause-keeps
returns-clause-keeps g c =
    keeps_put _ _ (g.C.Cells.sight c.args.cells.now) (g.C.Cells.sight c.read.new.self) (g.C.Cells.sight c.write.new.self)
    c.in_ok-read.ensures.ok.looks.writes c.write.ensures

pub returns-clause-reads : goal.returns-clause-reads
returns-clause-reads g c = asks_still c.read.ensures.reads (nothing_written c.write.ensures)
