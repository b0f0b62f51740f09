-- What is left to show of `with_assertion`.
use Rattle.std.proofs.Common.{true, sym, subst, rules}
use Rattle.mmsyntax.specs.Rows.{Units}
use Rattle.mmunits.specs.Labels.{HasLabels}
use Rattle.mmunits.proofs.LabelMaps.{owners_with, trunks_with}
use Rattle.mmunits.proofs.known.Units.with_assertion.Goals as goal

pub invariant_of-self : goal.invariant_of-self
invariant_of-self c =
    let here : Units = record {
      assertions = c.self.inside.assertions.items;
      hypothesis_labels = c.self.inside.hypothesis_labels.items;
      prelude_closed = c.self.inside.prelude_closed;
    } in
    let label = c.as_slice-label.result.now in
    subst (λ xs. HasLabels c.put_label.new.labels c.put_label.new.trunks (record here { assertions = xs; prelude_closed = true }))
    (sym c.in_ok-push.ensures.items)
    (record {
      owned = owners_with c.self.inside.labels c.put_label.new.labels label here c.args.assertion true c.self.invariant.owned
          (search rules) c.in_ok-put_label.ensures.labels;
      dotted = trunks_with c.self.inside.trunks c.put_label.new.trunks label here.assertions c.args.assertion c.self.invariant.dotted
          (search rules) c.in_ok-put_label.ensures.trunks;
    })
