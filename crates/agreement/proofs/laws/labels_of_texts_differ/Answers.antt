-- The law `labels_of_texts_differ` is a part of what `mmsyntax` says of databases that have a spelling.
use Rattle.mmsyntax.proofs.Declarable.{declarable}
use Rattle.agreement.proofs.laws.labels_of_texts_differ.Goals as goal

pub returns : goal.returns
returns c = λ db spelled. (declarable db spelled).distinct
