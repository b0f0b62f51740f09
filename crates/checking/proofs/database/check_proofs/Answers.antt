use Rattle.std.proofs.Common.{◌+◌}
use Rattle.checking.specs.declared.fault.Fault.TheVariants.{Proof}
use Rattle.checking.proofs.DatabaseFaults.{proof_faulted, proof_refused, proof_memory}
use Rattle.checking.proofs.database.check_proofs.Goals as goal

pub returns-in-Ok-clause-refused : goal.returns-in-Ok-clause-refused
returns-in-Ok-clause-refused g c (Proof label fault) h = c.in-Ok.ensures.refused (h.0 + 1) fault h.1
returns-in-Ok-clause-refused g c _ h = h

pub returns-in-Err-clause-only : goal.returns-in-Err-clause-only
returns-in-Err-clause-only g c checks =
    proof_memory c.args.db.now c.in-Err.number c.in-Err.fault c.proof_fault.result c.proof_fault.ensures (c.in-Err.ensures.proved checks)

pub returns-in-Err-clause-fault : goal.returns-in-Err-clause-fault
returns-in-Err-clause-fault g c =
    proof_faulted c.args.db.now c.in-Err.number c.in-Err.fault c.proof_fault.result c.in-Err.ensures.fault c.proof_fault.ensures

pub returns-in-Err-clause-refused : goal.returns-in-Err-clause-refused
returns-in-Err-clause-refused g c f h =
    proof_refused c.args.db.now c.in-Err.number c.in-Err.fault c.proof_fault.result f c.proof_fault.ensures h c.in-Err.ensures.refused
