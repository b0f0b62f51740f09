-- What is left to show of `line_begin`.
use Rattle.std.proofs.Common.{◌∙◌, rules}
use Rattle.dressing.proofs.Lines.{no_line, at_last_line}
use Rattle.dressing.proofs.putting.line_begin.Goals as goal

pub returns-in-Some : goal.returns-in-Some
returns-in-Some c = at_last_line c.args.space.now c.in-Some.last (search rules) (search rules) (search rules)

pub returns-in-None : goal.returns-in-None
returns-in-None c = c.as_slice.ensures ∙ no_line c.args.space.now (search rules)
