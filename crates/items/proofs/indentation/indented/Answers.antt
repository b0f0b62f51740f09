-- What is left to show of `indented`.
use Rattle.items.proofs.PutThen.{unlabelled}
use Rattle.items.proofs.Indented.{unlabelled_not_indented}
use Rattle.items.proofs.indentation.indented.Goals as goal

pub returns-in_default : goal.returns-in_default
returns-in_default c = λ x stands is.
    unlabelled_not_indented x (unlabelled c.args.item.kind (λ label e. c.in_default.not-Assertion label e) x is)
