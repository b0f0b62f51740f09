-- What is left to show of `next_place`.
use Rattle.mmtext.specs.Views.{seen}
use Rattle.statementreader.proofs.UnitRows.{ready_on}
use Rattle.statementreader.proofs.units.next_place.Goals as goal

pub place_by_row-requires-clause-stands : goal.place_by_row-requires-clause-stands
place_by_row-requires-clause-stands c = c.requires.ready.goes_on.stands c.args.symbols.now

pub returns-clause-ready : goal.returns-clause-ready
returns-clause-ready c =
    ready_on c.args.symbols.now c.args.units.now c.args.place (seen c.args.marked.token) c.place_by_row.new.units c.place_by_row.result
    c.requires.ready c.place_by_row.ensures
