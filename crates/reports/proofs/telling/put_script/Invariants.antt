-- What the loop of `put_script` keeps.
use Rattle.std.proofs.Common.{◌≡◌, ◌+◌, ◌++◌, drop}
use Rattle.reports.specs.Reports.{script_text_from}
use Rattle.reports.proofs.telling.put_script.Given as goal

abbrev pub invariant-loop-i : goal.invariant-loop-i
invariant-loop-i l =
    l.out.items ++ script_text_from l.prelude l.script (l.i + 1) (drop l.i l.outcomes)
    ≡ l.fn.out.items ++ script_text_from l.prelude l.script 1 l.outcomes
