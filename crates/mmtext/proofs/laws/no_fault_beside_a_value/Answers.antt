-- The law `no_fault_beside_a_value` is a lemma.
use Rattle.mmtext.specs.Laws.{Says}
use Rattle.mmtext.proofs.TextLaws.{own_grammar, spells_without_fault}
use Rattle.mmtext.proofs.laws.no_fault_beside_a_value.Goals as goal

pub returns : goal.returns
returns g c = λ l. spells_without_fault l (Says l) (own_grammar l)
