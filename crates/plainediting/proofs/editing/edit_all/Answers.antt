use Rattle.std.proofs.Common.{◌∙◌, ap}
use Rattle.std.proofs.lemmas.List.{map_push}
use Rattle.transaction.specs.Closings.{lists_of}
use Rattle.plainediting.proofs.Scripts.{edited, script_next}
use Rattle.plainediting.proofs.editing.edit_all.Goals as goal

pub loop-script-preserved : goal.loop-script-preserved
loop-script-preserved c =
    let now = c.loop-script in
    let row = c.in_ok-take_all.field-0 in
    let next =
    script_next c.args.db.now c.args.scripts.now now.script-index (lists_of now.rows.items) (lists_of c.push.new.self.items)
    c.script-item.result c.as_slice.result.now row.items now.desk c.take_all.new.self c.loop-script-test.true c.script-item.is
    c.as_slice.ensures (ap lists_of c.in_ok-push.ensures.items ∙ map_push (λ v. v.items) now.rows.items row) now.invariant.each
    now.invariant.all c.in_ok-take_all.ensures in
    record { each = next.0; all = next.1 }

pub returns : goal.returns
returns c =
    let now = c.loop-script in
    edited c.args.db.now c.args.scripts.now now.script-index (lists_of now.rows.items) now.desk c.into_library.result
    c.loop-script-test.false now.invariant.each now.invariant.all c.into_library.ensures.setting c.into_library.ensures.shown
