use Rattle.lawful.proofs.Closed.{closed_histories_stand, closed_words_show}
use Rattle.lawful.proofs.laws.closed_words_show.Goals as goal

pub returns-clause-stand : goal.returns-clause-stand
returns-clause-stand c = closed_histories_stand

pub returns-clause-show : goal.returns-clause-show
returns-clause-show c = closed_words_show
