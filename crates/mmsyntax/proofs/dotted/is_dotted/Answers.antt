-- What is left to show of `is_dotted`.
use Rattle.std.proofs.Common.{rules, ap, ◌∙◌}
use Rattle.std.specs.Prelude.{is_some}
use Rattle.mmsyntax.proofs.DottedWords.{told_of_none, told_of_some}
use Rattle.mmsyntax.proofs.dotted.is_dotted.Goals as goal

pub returns-then-not-is_empty : goal.returns-then-not-is_empty
returns-then-not-is_empty c =
    c.is_some.ensures ∙ ap is_some c.hypothesis_number.ensures
    ∙ told_of_some c.args.label.now c.args.word.now c.is_empty.result (search rules) (search rules)

pub returns-else-not-is_empty : goal.returns-else-not-is_empty
returns-else-not-is_empty c = told_of_none c.args.label.now c.args.word.now c.is_empty.result (search rules) (search rules)
