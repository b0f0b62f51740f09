-- What is left to show of `put_trunk`.
use Rattle.mmunits.proofs.LabelMaps.{trunk_put, no_trunk}
use Rattle.mmunits.proofs.known.put_trunk.Goals as goal

pub returns-in_ok-put_at : goal.returns-in_ok-put_at
returns-in_ok-put_at c =
    trunk_put c.args.trunks.now c.put_at.new.map c.args.label.now c.trunk-trunk.result.now c.trunk-trunk.ensures c.if-trunk-label.true
    c.in_ok-put_at.ensures.put

pub returns-else-trunk-label : goal.returns-else-trunk-label
returns-else-trunk-label c =
    no_trunk c.args.trunks.now c.args.label.now c.trunk-trunk.result.now c.trunk-trunk.ensures c.if-trunk-label.false
