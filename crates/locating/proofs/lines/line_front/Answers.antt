-- What is left to show of `line_front`.
use Rattle.std.proofs.Common.{rules, ◌∙◌, ap}
use Rattle.std.specs.List.{after_last}
use Rattle.locating.specs.Lines.{is_line_feed}
use Rattle.locating.proofs.Cuts.{cut_last, uncut_last}
use Rattle.locating.proofs.lines.line_front.Goals as goal

pub returns-in-Some : goal.returns-in-Some
returns-in-Some c =
    cut_last is_line_feed c.before-before.result.now c.in-Some.last (search rules) (search rules) (search rules)
    ∙ ap (after_last is_line_feed) c.before-before.ensures

pub returns-in-None : goal.returns-in-None
returns-in-None c =
    uncut_last is_line_feed c.before-before.result.now (search rules) ∙ ap (after_last is_line_feed) c.before-before.ensures
