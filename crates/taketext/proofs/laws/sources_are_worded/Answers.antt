use Rattle.taketext.proofs.Worded.{sources_worded}
use Rattle.taketext.proofs.laws.sources_are_worded.Goals as goal

pub returns : goal.returns
returns c = sources_worded
