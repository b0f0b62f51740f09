use Rattle.taketext.proofs.Telling.{tells_once}
use Rattle.taketext.proofs.laws.tells_once.Goals as goal

pub returns : goal.returns
returns c = tells_once
