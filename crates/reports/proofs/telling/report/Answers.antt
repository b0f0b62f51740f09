use Rattle.reports.proofs.ReportLines.{row_on, next_fits}
use Rattle.reports.proofs.telling.report.Goals as goal

pub put_script-requires : goal.put_script-requires
put_script-requires c =
    next_fits c.args.prelude.now c.args.rows.items _ _ c.loop-row.out.items c.loop-row.script _ c.in-Some.row _ c.loop-row.invariant
    c.in-Some.ensures.steps.0 c.as_slice.ensures.value

pub loop-row-preserved : goal.loop-row-preserved
loop-row-preserved c =
    let steps = c.in-Some.ensures.steps in
    row_on c.args.prelude.now c.args.rows.items _ _ c.loop-row.out.items _ c.loop-row.script _ _ c.in-Some.row _ c.loop-row.invariant
    steps.0 steps.1 c.as_slice.ensures.value c.in_ok-put_script.ensures
