use Rattle.std.proofs.Common.{sym, subst}
use Rattle.checking.specs.declared.fault.Fault.{Fault}
use Rattle.jobs.specs.Jobs.{room_of}
use Rattle.jobs.specs.Parts.{IsWorkFault, planned_room}
use Rattle.transaction.specs.Closings.{lists_of}
use Rattle.jobs.proofs.Worked.{some_session, all_sessions, worked, unworked}
use Rattle.jobs.proofs.running.work.Goals as goal

pub run_to_end-edited-requires-clause-some : goal.run_to_end-edited-requires-clause-some
run_to_end-edited-requires-clause-some g c κs outlives =
    let room = room_of (planned_room c.args.plan) c.args.db.now c.args.scripts.now in
    let opened = rw c.shape.ensures.is at c.in_ok-library.ensures.done in
    some_session c.args.db.now c.args.plan.workers room c.in_ok-library.library c.in_ok-library.sessions.items opened c.requires.within.0

pub run_to_end-edited-requires-clause-all : goal.run_to_end-edited-requires-clause-all
run_to_end-edited-requires-clause-all g c κs outlives =
    let room = room_of (planned_room c.args.plan) c.args.db.now c.args.scripts.now in
    let opened = rw c.shape.ensures.is at c.in_ok-library.ensures.done in
    all_sessions c.args.db.now c.args.plan.workers room c.in_ok-library.library c.in_ok-library.sessions.items opened

pub returns-in-Ok-clause-done : goal.returns-in-Ok-clause-done
returns-in-Ok-clause-done g c =
    let room = room_of (planned_room c.args.plan) c.args.db.now c.args.scripts.now in
    let opened = rw c.shape.ensures.is at c.in_ok-library.ensures.done in
    let edited = c.in-Ok.edited in
    worked c.args.db.now c.args.plan.workers room c.in_ok-library.library c.in_ok-library.sessions.items opened
    c.args.scripts.now (lists_of edited.outcomes.items) edited.history edited.library c.in-Ok.ensures.done

pub returns-in-Err-clause-fault : goal.returns-in-Err-clause-fault
returns-in-Err-clause-fault g c =
    let room = room_of (planned_room c.args.plan) c.args.db.now c.args.scripts.now in
    let opened = rw c.shape.ensures.is at c.in_ok-library.ensures.done in
    subst (λ (f : Fault). IsWorkFault c.args.db.now c.args.plan.workers room f) (sym c.fault_of.ensures)
    (unworked c.args.db.now c.args.plan.workers room c.in_ok-library.library c.in_ok-library.sessions.items opened
    c.in-Err.error c.in-Err.ensures.lack)
