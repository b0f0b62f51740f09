-- What is left to show of `remark_of`.
use Rattle.remarks.proofs.ByKind.{other_says_none}
use Rattle.remarks.proofs.comments.remark_of.Goals as goal

pub returns-in_default : goal.returns-in_default
returns-in_default c = λ is.
    other_says_none c.args.item.kind c.in_default.not-Comment is.item c.nothing.result is.kind c.nothing.ensures.modification
    c.nothing.ensures.usage
