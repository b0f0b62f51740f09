use Rattle.ranges.proofs.Words.{names_one}
use Rattle.ranges.proofs.laws.words_name_one.Goals as goal

pub returns : goal.returns
returns c = names_one
