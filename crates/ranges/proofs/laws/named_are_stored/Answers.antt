use Rattle.ranges.proofs.Named.{named_stored, named_of_one}
use Rattle.ranges.proofs.laws.named_are_stored.Goals as goal

pub returns-clause-stored : goal.returns-clause-stored
returns-clause-stored c = named_stored

pub returns-clause-one : goal.returns-clause-one
returns-clause-one c = named_of_one
