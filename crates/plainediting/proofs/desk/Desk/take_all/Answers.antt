use Rattle.plainediting.proofs.Doing.{does_next}
use Rattle.plainediting.proofs.desk.Desk.take_all.Goals as goal

pub loop-commands-preserved : goal.loop-commands-preserved
loop-commands-preserved c =
    let now = c.loop-commands in
    does_next c.args.self.now now.self c.take.new.self c.args.transactions.now now.commands-index now.outcomes.items c.push.new.self.items
    c.commands-item.result c.as_slice.result.now c.in_ok-take.field-0 c.loop-commands-test.true c.commands-item.is c.as_slice.ensures
    c.in_ok-push.ensures.items now.invariant c.in_ok-take.ensures
