use Rattle.std.proofs.Common.{ap, ◌∙◌}
use Rattle.catalog.specs.Trunks.{lists}
use Rattle.catalog.proofs.Dotted.{lists-last}
use Rattle.catalog.proofs.trunks.enter_label.Goals as goal

pub returns-clause-entered : goal.returns-clause-entered
returns-clause-entered c =
    let w = c.args.label.now in
    ap (λ l. lists l w) c.in_ok-push.ensures.items ∙ lists-last c.args.list.now.items c.in_ok-dotted.dotted w c.in_ok-dotted.ensures.items
