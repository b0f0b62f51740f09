-- What is left to show of `trunk`.
use Rattle.std.proofs.Common.{rules, sym, ◌∙◌}
use Rattle.mmsyntax.proofs.DottedWords.{dotted_trunk, no_dot_at_all, at_last_dot}
use Rattle.mmsyntax.proofs.dotted.trunk.Goals as goal

pub returns-in-Some : goal.returns-in-Some
returns-in-Some c = sym (dotted_trunk _ c.args.word.now (sym c.is_dotted.ensures ∙ c.if-is_dotted.true))

pub returns-in_default : goal.returns-in_default
returns-in_default c =
    sym (at_last_dot c.args.word.now c.in-Some.dot (search rules) (search rules) (search rules) (sym c.is_dotted.ensures
    ∙ c.if-is_dotted.false))

pub returns-in_default-2 : goal.returns-in_default-2
returns-in_default-2 c = sym (no_dot_at_all c.args.word.now (search rules))
