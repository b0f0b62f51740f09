-- What is left to show of `is_absent`.
use Rattle.std.proofs.Common.{◌∙◌, sym, ap}
use mathlib.Core.Bool.{not}
use Rattle.giving.proofs.Finding.{text_found}
use Rattle.givetext.proofs.drafting.is_absent.Goals as goal

pub returns : goal.returns
returns c = λ holds.
    sym (text_found c.args.labels.now c.args.label.now c.text_for.result c.text_for.ensures)
    ∙ c.is_none.ensures
    ∙ ap not holds
