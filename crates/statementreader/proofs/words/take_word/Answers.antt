-- What is left to show of `take_word`.
use Rattle.std.proofs.Common.{sym, subst}
use Rattle.mmtext.specs.Views.{seen}
use Rattle.statementreader.specs.Takings.{TakesWordAt}
use Rattle.mmunits.specs.Views.{known_of}
use Rattle.statementreader.specs.Views.{seen_place, seen_unit_place}
use Rattle.statementreader.proofs.words.take_word.Goals as goal

pub returns-in-Unit-clause-taken : goal.returns-in-Unit-clause-taken
returns-in-Unit-clause-taken c = λ u.
    let r = c.take_unit_word in
    subst (λ p. TakesWordAt (known_of c.args.symbols.now u) (seen_place p) (seen c.args.token) (seen_unit_place r.new.place) r.result)
    (sym c.in-Unit.is) (r.ensures.taken u)
