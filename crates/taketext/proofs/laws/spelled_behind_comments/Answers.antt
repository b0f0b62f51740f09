use Rattle.taketext.proofs.Behind.{spelled_behind}
use Rattle.taketext.proofs.laws.spelled_behind_comments.Goals as goal

pub returns : goal.returns
returns c = spelled_behind
