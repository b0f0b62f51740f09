use Rattle.std.proofs.Common.{subst, sym}
use Rattle.std.proofs.lemmas.Result.{err_from_is_err_and}
use Rattle.checking.specs.Checks.{IsHistory, IsAfter, IsDifference, IsOrLacksMemory}
use Rattle.checking.proofs.ReplayFaults.{replay_faulted_by_text, replay_faulted_by_entry}
use Rattle.checking.proofs.ReplayFaults.{replay_refused_by_database, replay_refused_by_text, replay_refused_by_entry}
use Rattle.checking.proofs.texts.replay_library.Goals as goal

pub returns-in_err-db-clause-refused : goal.returns-in_err-db-clause-refused
returns-in_err-db-clause-refused g c f h =
    let p = err_from_is_err_and c.from_residual.result c.from_residual.ensures.1 in
    rw (p.1, p.2) (replay_refused_by_database c.args.db.now _ c.in_err-db.field-0.0 f c.in_err-db.ensures.refused c.in_err-db.ensures.only
    h)

pub returns-in_err-entries-clause-fault : goal.returns-in_err-entries-clause-fault
returns-in_err-entries-clause-fault g c =
    let p = err_from_is_err_and c.from_residual-in_err-entries.result c.from_residual-in_err-entries.ensures.1 in
    rw (p.1, p.2) (λ ne. replay_faulted_by_text c.args.db.now _ c.in_ok-db.db _ c.in_err-entries.field-0.0 c.prelude.ensures
    c.in_ok-db.ensures.done (c.in_err-entries.ensures.fault ne) ne)

pub returns-in_err-entries-clause-refused : goal.returns-in_err-entries-clause-refused
returns-in_err-entries-clause-refused g c f h =
    let p = err_from_is_err_and c.from_residual-in_err-entries.result c.from_residual-in_err-entries.ensures.1 in
    rw (p.1, p.2) (replay_refused_by_text c.args.db.now _ c.in_ok-db.db _ c.prelude.ensures c.in_ok-db.ensures.refused
    c.in_ok-db.ensures.only
    c.in_err-entries.field-0.0 f c.in_err-entries.ensures.refused c.in_err-entries.ensures.only h)

pub returns-in_err-library-clause-fault : goal.returns-in_err-library-clause-fault
returns-in_err-library-clause-fault g c =
    let p = err_from_is_err_and c.from_residual-in_err-library.result c.from_residual-in_err-library.ensures.1 in
    let read = subst (λ t. IsHistory t c.args.history.now c.in_ok-entries.entries) c.prelude.ensures c.in_ok-entries.ensures.done in
    rw (p.1, p.2) (λ ne. replay_faulted_by_entry c.args.db.now _ c.in_ok-db.db c.in_ok-entries.entries c.in_err-library.field-0.0
    c.in_ok-db.ensures.done read (rw c.as_slice.ensures at (c.in_err-library.ensures.fault ne)))

pub returns-in_err-library-clause-refused : goal.returns-in_err-library-clause-refused
returns-in_err-library-clause-refused g c f h =
    let p = err_from_is_err_and c.from_residual-in_err-library.result c.from_residual-in_err-library.ensures.1 in
    rw (p.1, p.2) (replay_refused_by_entry c.args.db.now _ c.in_ok-db.db _ c.prelude.ensures c.in_ok-db.ensures.refused
    c.in_ok-db.ensures.only c.in_ok-entries.entries c.in_ok-entries.ensures.refused c.in_ok-entries.ensures.only
    (λ x. IsOrLacksMemory x c.in_err-library.field-0.0) f
    (λ x d. c.in_err-library.ensures.refused x (subst (λ es. IsDifference c.in_ok-db.db es x) (sym c.as_slice.ensures) d)) h)

pub returns-clause-done : goal.returns-clause-done
returns-clause-done g c = record {
  contents = c.in_ok-db.db;
  checked = c.in_ok-db.ensures.done;
  read = subst (λ t. IsHistory t c.args.history.now c.in_ok-entries.entries) c.prelude.ensures c.in_ok-entries.ensures.done;
  after = subst (λ es. IsAfter c.in_ok-db.db es c.in_ok-library.library) c.as_slice.ensures c.in_ok-library.ensures.done;
}

pub returns-clause-refused : goal.returns-clause-refused
returns-clause-refused g c f =
    replay_refused_by_entry c.args.db.now _ c.in_ok-db.db _ c.prelude.ensures c.in_ok-db.ensures.refused c.in_ok-db.ensures.only
    c.in_ok-entries.entries c.in_ok-entries.ensures.refused c.in_ok-entries.ensures.only (λ x. ⊥) f
    (λ x d. c.in_ok-library.ensures.refused x (subst (λ es. IsDifference c.in_ok-db.db es x) (sym c.as_slice.ensures) d))
