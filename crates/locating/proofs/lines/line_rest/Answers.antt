-- What is left to show of `line_rest`.
use Rattle.std.proofs.Common.{rules, ◌∙◌, ap}
use Rattle.std.specs.List.{before_first}
use Rattle.locating.specs.Lines.{ends_line}
use Rattle.locating.proofs.Cuts.{cut_before, uncut_before}
use Rattle.locating.proofs.lines.line_rest.Goals as goal

pub returns-in-Some : goal.returns-in-Some
returns-in-Some c =
    cut_before ends_line c.from-rest.result.now c.in-Some.end (search rules) (search rules) (search rules)
    ∙ ap (before_first ends_line) c.from-rest.ensures

pub returns-in-None : goal.returns-in-None
returns-in-None c = uncut_before ends_line c.from-rest.result.now (search rules) ∙ ap (before_first ends_line) c.from-rest.ensures
