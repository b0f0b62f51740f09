use Rattle.derivation.proofs.OneFault.{fault-is-one, fault-excludes-proof}
use Rattle.derivation.proofs.laws.faults.Goals as goal

pub returns-clause-one : goal.returns-clause-one
returns-clause-one c = fault-is-one

pub returns-clause-excludes : goal.returns-clause-excludes
returns-clause-excludes c = fault-excludes-proof
