-- What is left to show of `is_one_of`: a look-up finds a label that is one of these.
use Rattle.std.proofs.Common.{◌∙◌}
use Rattle.giving.proofs.Finding.{text_found}
use Rattle.mentions.proofs.mentioned.is_one_of.Goals as goal

pub returns : goal.returns
returns c = c.is_some.ensures ∙ text_found c.args.labels.now c.args.label.now c.text_for.result c.text_for.ensures
