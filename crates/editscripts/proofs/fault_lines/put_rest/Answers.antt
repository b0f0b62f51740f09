-- What is left to show of `put_rest`.
use Rattle.std.proofs.Common.{◌∙◌, ◌<◌, ap, arith}
use Rattle.editscripts.specs.Views.{seen_lines}
use Rattle.editscripts.proofs.FaultTexts.{rest_one}
use Rattle.editscripts.proofs.fault_lines.put_rest.Goals as goal

pub returns : goal.returns
returns c =
    let some : 0 < c.args.more = omega arith in
    ap seen_lines c.in_ok-push.ensures.items ∙ rest_one c.args.more some c.args.lines.now.items c.in_ok-line.line c.in_ok-line.ensures.ok
