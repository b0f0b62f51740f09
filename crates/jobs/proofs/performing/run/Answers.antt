use Rattle.std.proofs.Common.{inl, map, subst}
use Rattle.std.proofs.lemmas.Result.{err_from_is_err_and}
use Rattle.checking.specs.Checks.{AreScripts}
use Rattle.jobs.specs.Parts.{planned_room}
use Rattle.jobs.proofs.RunFaults.{database_of_run, script_of_run, run_faulted, run_done}
use Rattle.jobs.proofs.RunFaults.{run_refused_by_database, run_refused_by_script, run_refused_by_room}
use Rattle.jobs.proofs.performing.run.Goals as goal

pub returns-in_err-db-clause-fault : goal.returns-in_err-db-clause-fault
returns-in_err-db-clause-fault g c =
    let p = err_from_is_err_and c.from_residual.result c.from_residual.ensures.1 in
    rw (p.1, p.2) (λ ne. inl (database_of_run c.args.db.now _ (planned_room c.args.plan) c.in_err-db.field-0.0
    (c.in_err-db.ensures.fault ne)))

pub returns-in_err-db-clause-refused : goal.returns-in_err-db-clause-refused
returns-in_err-db-clause-refused g c f h =
    let p = err_from_is_err_and c.from_residual.result c.from_residual.ensures.1 in
    rw (p.1, p.2) (run_refused_by_database c.args.db.now _ (planned_room c.args.plan) c.in_err-db.field-0.0 f c.in_err-db.ensures.refused
    c.in_err-db.ensures.only h)

pub returns-in_err-scripts-clause-fault : goal.returns-in_err-scripts-clause-fault
returns-in_err-scripts-clause-fault g c =
    let p = err_from_is_err_and c.from_residual-in_err-scripts.result c.from_residual-in_err-scripts.ensures.1 in
    rw (p.1, p.2) (λ ne. inl (script_of_run c.args.db.now _ (planned_room c.args.plan) c.in_ok-db.db _ c.in_err-scripts.field-0.0
    c.prelude.ensures
    c.in_ok-db.ensures.done c.in_err-scripts.ensures.err ne))

pub returns-in_err-scripts-clause-refused : goal.returns-in_err-scripts-clause-refused
returns-in_err-scripts-clause-refused g c f h =
    let p = err_from_is_err_and c.from_residual-in_err-scripts.result c.from_residual-in_err-scripts.ensures.1 in
    rw (p.1, p.2) (run_refused_by_script c.args.db.now _ (planned_room c.args.plan) c.in_ok-db.db _ c.prelude.ensures
    c.in_ok-db.ensures.refused
    c.in_ok-db.ensures.only c.in_err-scripts.field-0.0 f c.in_err-scripts.ensures.refused c.in_err-scripts.ensures.err h)

pub returns-clause-done : goal.returns-clause-done
returns-clause-done g c =
    let db = c.in_ok-db.db in
    let scripts = c.in_ok-scripts.scripts.items in
    let texts = map (λ t. t.items) c.args.scripts.now in
    let ordered = subst (λ t. AreScripts t texts scripts) c.prelude.ensures c.in_ok-scripts.ensures.ok in
    run_done c.args.db.now texts c.args.plan.workers (planned_room c.args.plan) db scripts c.in_ok-db.ensures.done ordered
    c.args.plan.options.history
    c.print_run.result (rw c.as_slice.ensures.value at c.print_run.ensures.done)

pub returns-clause-fault : goal.returns-clause-fault
returns-clause-fault g c =
    let db = c.in_ok-db.db in
    let scripts = c.in_ok-scripts.scripts.items in
    let texts = map (λ t. t.items) c.args.scripts.now in
    let ordered = subst (λ t. AreScripts t texts scripts) c.prelude.ensures c.in_ok-scripts.ensures.ok in
    run_faulted c.args.db.now texts c.args.plan.workers (planned_room c.args.plan) db scripts c.in_ok-db.ensures.done ordered
    c.print_run.result
    (rw c.as_slice.ensures.value at c.print_run.ensures.fault)

pub returns-clause-refused : goal.returns-clause-refused
returns-clause-refused g c f =
    run_refused_by_room c.args.db.now _ (planned_room c.args.plan) c.in_ok-db.db _ c.prelude.ensures c.in_ok-db.ensures.refused
    c.in_ok-db.ensures.only
    c.in_ok-scripts.scripts.items c.print_run.result f c.in_ok-scripts.ensures.refused
    (rw c.as_slice.ensures.value at c.print_run.ensures.full)
