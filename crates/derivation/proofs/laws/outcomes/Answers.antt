-- The laws of outcomes are lemmas.
use Rattle.derivation.proofs.Growing.{outcome-alike}
use Rattle.derivation.proofs.Outcome.{outcome-is, outcome-is-one}
use Rattle.derivation.proofs.laws.outcomes.Goals as goal

pub returns-clause-one : goal.returns-clause-one
returns-clause-one c = outcome-is-one

pub returns-clause-grown : goal.returns-clause-grown
returns-clause-grown c = outcome-is

pub returns-clause-cited : goal.returns-clause-cited
returns-clause-cited c = outcome-alike
