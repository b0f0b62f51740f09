-- What is left to show of `copy`.
use Rattle.std.proofs.Common.{ap}
use Rattle.std.specs.List.{each_same}
use Rattle.source.specs.Views.{seen_words}
use Rattle.sourceframes.specs.Names.{words_of}
use Rattle.sourceframes.proofs.Numbered.{entries_same, same_table}
use Rattle.sourceframes.proofs.table.Table.copy.Goals as goal

pub returns-clause-sound : goal.returns-clause-sound
returns-clause-sound c =
    let old = c.args.self.now in
    let words = each_same old.words.items c.in_ok-words.words.items c.in_ok-words.ensures.cases.0 in
    same_table old.numbers c.in_ok-numbers.numbers (words_of old) (seen_words c.in_ok-words.words.items)
    (entries_same old.numbers.entries c.in_ok-numbers.numbers.entries c.in_ok-numbers.ensures.cases) (ap seen_words words) c.requires

pub returns-clause-same : goal.returns-clause-same
returns-clause-same c =
    ap seen_words (each_same c.args.self.now.words.items c.in_ok-words.words.items c.in_ok-words.ensures.cases.0)
