use Rattle.derivation.proofs.Exact.{first-excludes, first-is-one}
use Rattle.derivation.proofs.laws.first_faults.Goals as goal

pub returns-clause-one : goal.returns-clause-one
returns-clause-one c = first-is-one

pub returns-clause-excludes : goal.returns-clause-excludes
returns-clause-excludes c = first-excludes
