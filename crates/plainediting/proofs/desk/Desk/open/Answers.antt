use Rattle.std.proofs.Common.{◌∙◌, ◌≤◌, ◌<◌, Err, length, ap, subst, arith}
use Rattle.mmsyntax.proofs.Declarable.{declarable}
use Rattle.history.specs.Openings.{EditorOpens}
use Rattle.plainediting.proofs.desk.Desk.open.Goals as goal

-- a database has at most 4,096 assertions
pub unreachable-requires : goal.unreachable-requires
unreachable-requires c =
    let db = c.args.db.now in
    let few : length db.assertions ≤ 4096 = (declarable db c.assertions-assertions.ensures.sound).few in
    let many : 4096 < length db.assertions =
    subst (EditorOpens db 4096) (c.in-Err-TooMany.is ∙ ap Err c.in-Err-TooMany.field-0-is) c.open.ensures in
    absurd (omega arith)
