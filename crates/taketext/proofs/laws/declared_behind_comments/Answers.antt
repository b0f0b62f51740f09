use Rattle.taketext.proofs.Behind.{declared_behind}
use Rattle.taketext.proofs.laws.declared_behind_comments.Goals as goal

pub returns : goal.returns
returns c = declared_behind
