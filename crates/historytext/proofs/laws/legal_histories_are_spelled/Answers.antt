use Rattle.historytext.proofs.Spelled.{legal_histories_are_spelled}
use Rattle.historytext.proofs.laws.legal_histories_are_spelled.Goals as goal

pub returns : goal.returns
returns c = legal_histories_are_spelled
