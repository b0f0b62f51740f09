use Rattle.std.proofs.Common.{◌≢◌}
use Rattle.std.proofs.lemmas.Bool.{false≢true}
use Rattle.derivation.specs.declared.fault.ProofFaultKind.TheVariants.{NoMemory}
use Rattle.transaction.proofs.opening.check.Goals as goal

pub returns-in-Err-2-clause-fault : goal.returns-in-Err-2-clause-fault
returns-in-Err-2-clause-fault g c =
    let other : c.in-Err.fault.kind ≢ NoMemory = λ e. false≢true (rw e at c.if-eq.ensures) in
    (other, c.in-Err.ensures.fault other)
