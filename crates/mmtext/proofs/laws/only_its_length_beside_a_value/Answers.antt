-- The law `only_its_length_beside_a_value` is a lemma.
use Rattle.mmtext.specs.Laws.{Says}
use Rattle.mmtext.proofs.TextLaws.{own_grammar, fails_by_length}
use Rattle.mmtext.proofs.laws.only_its_length_beside_a_value.Goals as goal

pub returns : goal.returns
returns g c = λ l. fails_by_length l (Says l) (own_grammar l)
