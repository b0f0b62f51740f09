use Rattle.taketext.proofs.Silent.{comments_say_nothing}
use Rattle.taketext.proofs.laws.comments_say_nothing.Goals as goal

pub returns : goal.returns
returns c = comments_say_nothing
