-- The law `value_or_fault` is a lemma.
use Rattle.mmtext.specs.Laws.{Says}
use Rattle.mmtext.proofs.TextLaws.{own_grammar, spells_or_fails}
use Rattle.mmtext.proofs.laws.value_or_fault.Goals as goal

pub returns : goal.returns
returns g c = λ l. spells_or_fails l (Says l) (own_grammar l)
