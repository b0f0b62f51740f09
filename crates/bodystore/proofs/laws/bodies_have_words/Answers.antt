-- The laws `bodies_have_words` are lemmas.
use Rattle.bodystore.proofs.Small.{statements_have_words, proofs_have_words}
use Rattle.bodystore.proofs.laws.bodies_have_words.Goals as goal

pub returns-clause-statements : goal.returns-clause-statements
returns-clause-statements c = statements_have_words

pub returns-clause-proofs : goal.returns-clause-proofs
returns-clause-proofs c = proofs_have_words
