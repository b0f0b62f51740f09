use Rattle.lawful.proofs.Running.{runs_are_lawful}
use Rattle.lawful.proofs.laws.runs_are_lawful.Goals as goal

pub returns : goal.returns
returns g c = runs_are_lawful
