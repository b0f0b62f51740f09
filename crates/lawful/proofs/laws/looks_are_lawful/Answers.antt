use Rattle.lawful.proofs.Running.{looks_are_lawful}
use Rattle.lawful.proofs.laws.looks_are_lawful.Goals as goal

pub returns : goal.returns
returns g c = looks_are_lawful
