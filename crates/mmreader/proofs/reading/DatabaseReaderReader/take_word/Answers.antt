-- What is left to show of `take_word` of a `DatabaseReader`.
use Rattle.mmtext.specs.Views.{seen}
use Rattle.mmunits.specs.Views.{known_of}
use Rattle.statementreader.specs.Views.{seen_place}
use Rattle.statementreader.proofs.TakenWords.{taken, ready_after}
use Rattle.mmreader.proofs.reading.DatabaseReaderReader.take_word.Goals as goal

pub returns-clause-ready : goal.returns-clause-ready
returns-clause-ready c =
    let d = c.args.self.now in
    let r = c.take_word in
    ready_after d.symbols (known_of d.symbols d.units) (seen_place d.place) (seen_place r.new.place) r.new.recent (seen c.args.token)
    r.result (r.ensures.taken d.units) c.requires.0 r.ensures.knows

pub returns-clause-taken : goal.returns-clause-taken
returns-clause-taken c =
    let d = c.args.self.now in
    let r = c.take_word in
    taken (known_of d.symbols d.units) (seen_place d.place) (seen_place r.new.place) (seen c.args.token) r.result (r.ensures.taken d.units)
