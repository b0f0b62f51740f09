use Rattle.librarylaws.proofs.Fitting.{replies_fit}
use Rattle.librarylaws.proofs.Agreeing.{legal_replies_fit}
use Rattle.librarylaws.proofs.laws.replies_are_within_limits.Goals as goal

pub returns-clause-replies : goal.returns-clause-replies
returns-clause-replies c = replies_fit

pub returns-clause-histories : goal.returns-clause-histories
returns-clause-histories c = legal_replies_fit
