use Rattle.std.proofs.Common.{subst, sym}
use Rattle.std.proofs.lemmas.Result.{err_from_is_err_and}
use Rattle.derivation.specs.Databases.{AllCheck}
use Rattle.checking.proofs.DatabaseFaults.{short_text, text_faulted, text_memory, text_refused, proof_of_database, database_refused}
use Rattle.checking.proofs.DatabaseFaults.{database_faultless}
use Rattle.checking.proofs.database.read_and_check.Goals as goal

pub returns-in-Err-clause-only : goal.returns-in-Err-clause-only
returns-in-Err-clause-only g c contents checked =
    text_memory 0 c.in-Err.fault c.text_fault.result c.text_fault.ensures
    (c.in-Err.ensures.only contents (short_text _ checked.read.faultless) checked.read.spelled)

pub returns-in-Err-clause-fault : goal.returns-in-Err-clause-fault
returns-in-Err-clause-fault g c = text_faulted c.args.text.now c.in-Err.fault c.text_fault.result c.text_fault.ensures
    c.in-Err.ensures.fault

pub returns-in-Err-clause-refused : goal.returns-in-Err-clause-refused
returns-in-Err-clause-refused g c f =
    text_refused c.args.text.now c.in-Err.fault c.text_fault.result f c.text_fault.ensures c.in-Err.ensures.refused
    (λ contents is. c.in-Err.ensures.only contents (short_text _ is.faultless) is.spelled)

pub returns-in_err-check_proofs-clause-only : goal.returns-in_err-check_proofs-clause-only
returns-in_err-check_proofs-clause-only g c contents checked =
    let p = err_from_is_err_and c.from_residual.result c.from_residual.ensures.1 in
    let same = c.in-Ok.ensures.only contents (short_text _ checked.read.faultless) checked.read.spelled in
    rw (p.1, p.2) (c.in_err-check_proofs.ensures.only (subst AllCheck (sym same) checked.checks))

pub returns-in_err-check_proofs-clause-fault : goal.returns-in_err-check_proofs-clause-fault
returns-in_err-check_proofs-clause-fault g c =
    let p = err_from_is_err_and c.from_residual.result c.from_residual.ensures.1 in
    rw (p.1, p.2) (λ ne. proof_of_database c.args.text.now c.in-Ok.db c.in_err-check_proofs.field-0.0
    (record { spelled = c.in-Ok.ensures.found; faultless = c.in-Ok.ensures.refused }) (c.in_err-check_proofs.ensures.fault ne))

pub returns-in_err-check_proofs-clause-refused : goal.returns-in_err-check_proofs-clause-refused
returns-in_err-check_proofs-clause-refused g c f h =
    let p = err_from_is_err_and c.from_residual.result c.from_residual.ensures.1 in
    rw (p.1, p.2) (database_refused c.args.text.now c.in-Ok.db c.in-Ok.ensures.refused
    (λ contents is. c.in-Ok.ensures.only contents (short_text _ is.faultless) is.spelled)
    c.in_err-check_proofs.field-0.0 f c.in_err-check_proofs.ensures.refused h)

pub returns-clause-only : goal.returns-clause-only
returns-clause-only g c contents checked = c.in-Ok.ensures.only contents (short_text _ checked.read.faultless) checked.read.spelled

pub returns-clause-refused : goal.returns-clause-refused
returns-clause-refused g c f =
    database_faultless c.args.text.now c.in-Ok.db c.in-Ok.ensures.refused
    (λ contents is. c.in-Ok.ensures.only contents (short_text _ is.faultless) is.spelled) f c.in_ok-check_proofs.ensures.refused

pub returns-clause-done : goal.returns-clause-done
returns-clause-done g c = record {
  read = record { spelled = c.in-Ok.ensures.found; faultless = c.in-Ok.ensures.refused };
  checks = c.in_ok-check_proofs.ensures.yes;
}
