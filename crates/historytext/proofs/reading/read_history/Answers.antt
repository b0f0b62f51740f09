-- What is left to show of `read_history`.
use Rattle.std.proofs.Common.{List, refl, ap}
use Rattle.mmtext.proofs.TextLaws.{itself_by_grammar}
use Rattle.library.specs.declared.history.Entry.{Entry}
use Rattle.historytext.specs.Grammar.{SpellsHistory}
use Rattle.historytext.specs.Places.{at_history, history_language}
use Rattle.historytext.proofs.HistoryRows.{progress}
use Rattle.historytext.proofs.HistoryLaws.{history_grammar, read_fits}
use Rattle.historytext.proofs.reading.read_history.Goals as goal

pub read-requires : goal.read-requires
read-requires c κs =
    ((refl, tt), (c.for_text.ensures c.args.prelude.now, ap (λ (es : List Entry). progress es at_history) c.new.ensures.items))

pub returns-clause-read : goal.returns-clause-read
returns-clause-read c =
    let t = c.args.prelude.now in
    itself_by_grammar (history_language t) (SpellsHistory t) (history_grammar t) c.args.text.now _ c.read.ensures

pub returns-clause-fits : goal.returns-clause-fits
returns-clause-fits c =
    let t = c.args.prelude.now in
    read_fits t c.args.text.now _ c.floats-floats.ensures.sound
    (itself_by_grammar (history_language t) (SpellsHistory t) (history_grammar t) c.args.text.now _ c.read.ensures)
