-- What is left to show of `texts_spell`.
use Rattle.historytext.proofs.Retold.{history_spelled}
use Rattle.historytext.proofs.laws.texts_spell.Goals as goal

pub returns : goal.returns
returns c = λ t bytes history sound s. history_spelled t sound bytes history s
