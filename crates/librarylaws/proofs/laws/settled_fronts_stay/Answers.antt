use Rattle.librarylaws.proofs.Fronts.{growth_is_reflexive, growth_is_transitive, settled_fronts_stay}
use Rattle.librarylaws.proofs.laws.settled_fronts_stay.Goals as goal

pub returns-clause-reflexive : goal.returns-clause-reflexive
returns-clause-reflexive c = growth_is_reflexive

pub returns-clause-transitive : goal.returns-clause-transitive
returns-clause-transitive c = growth_is_transitive

pub returns-clause-stay : goal.returns-clause-stay
returns-clause-stay c = settled_fronts_stay
