use Rattle.std.proofs.Common.{◌∙◌}
use Rattle.reports.proofs.ReportLines.{told_on}
use Rattle.reports.proofs.telling.put_script.Goals as goal

pub loop-i-preserved : goal.loop-i-preserved
loop-i-preserved c =
    told_on c.args.prelude.now c.args.script c.loop-i.i c.loop-i.out.items c.as_bytes.result.now c.extend_from_slice.new.self.items
    c.put_outcome.new.out.items _
    c.args.outcomes.now c.index-outcomes-i.result c.loop-i-test.true c.index-outcomes-i.is
    (c.as_bytes.ensures.value ∙ c.in_ok-number.ensures.ok) c.in_ok-extend_from_slice.ensures.items c.in_ok-put_outcome.ensures
    c.loop-i.invariant
