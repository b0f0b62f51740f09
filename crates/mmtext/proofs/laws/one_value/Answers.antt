-- The law `one_value` is a lemma.
use Rattle.mmtext.specs.Laws.{Says}
use Rattle.mmtext.proofs.TextLaws.{own_grammar, spells_one}
use Rattle.mmtext.proofs.laws.one_value.Goals as goal

pub returns : goal.returns
returns g c = λ l. spells_one l (Says l) (own_grammar l)
