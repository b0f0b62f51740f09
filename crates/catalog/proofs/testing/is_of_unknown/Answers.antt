use Rattle.std.proofs.Common.{sym, ap, ◌∙◌}
use Rattle.std.proofs.Math.Bool.{not, not-not}
use Rattle.catalog.proofs.Living.{some-known}
use Rattle.catalog.proofs.testing.is_of_unknown.Goals as goal

pub returns-in-Cite : goal.returns-in-Cite
returns-in-Cite c =
    let known = some-known c.args.entries.now c.in-Cite.label.now c.find_label.result c.find_label.ensures in
    rw c.in-Cite.is (sym (not-not c.is_none.result) ∙ ap not (sym c.is_none.ensures ∙ known))
