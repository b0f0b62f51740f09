-- What is left to show of `is_lost`: a look-up finds a label that is one of these.
use Rattle.std.proofs.Common.{◌∙◌, sym}
use Rattle.giving.proofs.Finding.{text_found}
use Rattle.editedsource.proofs.Picked.{other_way}
use Rattle.editedsource.proofs.spoken.is_lost.Goals as goal

pub returns : goal.returns
returns c =
    other_way c.is_none.result _
    (sym c.is_none.ensures ∙ text_found c.args.living.now c.args.label.now c.text_for.result c.text_for.ensures)
