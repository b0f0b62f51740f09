use Rattle.historytext.proofs.LegalFits.{legal_histories_fit}
use Rattle.historytext.proofs.laws.legal_histories_fit.Goals as goal

pub returns : goal.returns
returns c = legal_histories_fit
