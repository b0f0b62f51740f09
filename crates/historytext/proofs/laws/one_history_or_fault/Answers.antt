-- The laws are those of every language, by the grammar of histories.
use Rattle.mmtext.proofs.TextLaws.{has_one_fault, spells_one, spells_without_fault, fails_by_length, spells_or_fails}
use Rattle.historytext.specs.Grammar.{SpellsHistory}
use Rattle.historytext.specs.Places.{history_language}
use Rattle.historytext.proofs.HistoryLaws.{history_grammar}
use Rattle.historytext.proofs.laws.one_history_or_fault.Goals as goal

pub returns-clause-history : goal.returns-clause-history
returns-clause-history c = λ t. spells_one (history_language t) (SpellsHistory t) (history_grammar t)

pub returns-clause-fault : goal.returns-clause-fault
returns-clause-fault c = λ t. has_one_fault (history_language t)

pub returns-clause-faultless : goal.returns-clause-faultless
returns-clause-faultless c = λ t. spells_without_fault (history_language t) (SpellsHistory t) (history_grammar t)

pub returns-clause-faulty : goal.returns-clause-faulty
returns-clause-faulty c = λ t. fails_by_length (history_language t) (SpellsHistory t) (history_grammar t)

pub returns-clause-either : goal.returns-clause-either
returns-clause-either c = λ t. spells_or_fails (history_language t) (SpellsHistory t) (history_grammar t)

pub returns-clause-said : goal.returns-clause-said
returns-clause-said c = history_grammar
