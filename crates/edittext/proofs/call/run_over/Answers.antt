-- What is left to show of `run_over`.
use Rattle.transaction.specs.Closings.{lists_of}
use Rattle.jobs.specs.Jobs.{room_of}
use Rattle.jobs.specs.Parts.{planned_room}
use Rattle.jobs.proofs.Printable.{printable}
use Rattle.edittext.proofs.call.run_over.Goals as goal

pub returns-in-Ok-clause-reportable : goal.returns-in-Ok-clause-reportable
returns-in-Ok-clause-reportable g c =
    let e = c.in-Ok.edited in
    let db = c.args.database.now in
    let plan = c.plan_of-plan.result in
    printable db plan.workers (room_of (planned_room plan) db c.args.scripts.now) c.args.scripts.now (lists_of e.outcomes.items) e.history
    e.library c.assertions-spelled.ensures.sound c.requires.checks c.requires.fit c.in-Ok.ensures.done
