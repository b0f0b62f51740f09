use Rattle.lawful.proofs.Standing.{runs_suit}
use Rattle.lawful.proofs.laws.runs_suit.Goals as goal

pub returns : goal.returns
returns c = runs_suit
