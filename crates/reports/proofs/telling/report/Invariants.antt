-- What the loop of `report` keeps.
use Rattle.std.specs.Vec.Iter.{into_iter_items, into_iter_len}
use Rattle.reports.proofs.ReportLines.{AreLeft}
use Rattle.reports.proofs.telling.report.Given as goal

abbrev pub invariant-loop-row : goal.invariant-loop-row
invariant-loop-row l =
    AreLeft l.prelude l.fn.rows.items l.out.items l.script (into_iter_items l.row-iterator) (into_iter_len l.row-iterator)
