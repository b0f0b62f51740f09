-- What is left to show of `add_hypothesis_label`.
use Rattle.std.proofs.Common.{subst, rules}
use Rattle.mmsyntax.specs.Rows.{Units}
use Rattle.mmunits.specs.Labels.{HasLabels}
use Rattle.mmunits.proofs.LabelMaps.{owners_too}
use Rattle.mmunits.proofs.known.Units.add_hypothesis_label.Goals as goal

pub invariant_of-self-in-Ok : goal.invariant_of-self-in-Ok
invariant_of-self-in-Ok c =
    let here : Units = record {
      assertions = c.self.inside.assertions.items;
      hypothesis_labels = c.self.inside.hypothesis_labels.items;
      prelude_closed = c.self.inside.prelude_closed;
    } in
    subst (λ ls. HasLabels c.put_if_none.new.map c.self.inside.trunks (record here { hypothesis_labels = ls }))
    (search rules)
    (record {
      owned = owners_too c.self.inside.labels c.put_if_none.new.map here c.args.label.now c.self.invariant.owned c.in-Ok.ensures.put;
      dotted = c.self.invariant.dotted;
    })
