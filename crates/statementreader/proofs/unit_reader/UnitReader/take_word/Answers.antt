-- What is left to show of `UnitReader::take_word`.
use Rattle.mmtext.specs.Views.{seen}
use Rattle.mmunits.specs.Views.{known_of}
use Rattle.statementreader.specs.Views.{seen_unit_place}
use Rattle.statementreader.proofs.UnitWords.{taken_in_unit}
use Rattle.statementreader.proofs.unit_reader.UnitReader.take_word.Goals as goal

pub invariant_of-self : goal.invariant_of-self
invariant_of-self c = record {
  closed = c.self.invariant.closed;
  stands = λ t. c.take_unit_word.ensures.stands (known_of t c.self.inside.units) (c.self.invariant.stands t);
}

pub returns-clause-taken : goal.returns-clause-taken
returns-clause-taken c =
    let r = c.take_unit_word in
    taken_in_unit c.args.prelude.now c.symbols.result.now c.args.self.now c.self.inside.units (seen_unit_place c.self.inside.place)
    (seen_unit_place r.new.place) (seen c.args.token) r.result c.symbols.ensures c.self.view_is (r.ensures.taken c.self.inside.units)
    r.ensures.within
