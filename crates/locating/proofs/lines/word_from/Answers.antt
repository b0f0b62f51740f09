-- What is left to show of `word_from`.
use Rattle.std.proofs.Common.{rules, ◌∙◌, ap}
use Rattle.std.specs.List.{before_first}
use Rattle.mmtext.specs.Text.{is_white}
use Rattle.locating.proofs.Cuts.{cut_before, uncut_before}
use Rattle.locating.proofs.lines.word_from.Goals as goal

pub returns-in-Some : goal.returns-in-Some
returns-in-Some c =
    cut_before is_white c.from-rest.result.now c.in-Some.end (search rules) (search rules) (search rules)
    ∙ ap (before_first is_white) c.from-rest.ensures

pub returns-in-None : goal.returns-in-None
returns-in-None c = uncut_before is_white c.from-rest.result.now (search rules) ∙ ap (before_first is_white) c.from-rest.ensures
