-- What is true of every history and of its canonical text.
use Rattle.std.specs.Prelude.{◌≤◌, ℕ, List, All, length, map}
use Rattle.mmtext.specs.Laws.{IsGrammarOf, SpellsOne, HasOneFault, SpellsWithoutFault, FailsByLength, SpellsOrFails}
use Rattle.mmsyntax.specs.Tables.{Tables}
use Rattle.mmsyntax.specs.Layout.{IsSoundPrelude}
use Rattle.library.specs.declared.history.Entry.{Entry}
use Rattle.historytext.specs.Grammar.{highest_count, SpellsHistory}
use Rattle.library.specs.declared.library.Ranked.{Ranked}
use Rattle.library.specs.Library.{Setting, Verifies}
use Rattle.library.specs.Histories.{seen_entry, EntriesFit, IsLegal}
use Rattle.historytext.specs.Places.{history_language}
use Rattle.historytext.specs.Layout.{history_text, EntryFitsText}

-- a history that some text spells, over a prelude that some text declares, is spelled by its canonical text
abbrev pub TextsSpell : Type 0
TextsSpell = (t : Tables) (bytes : List ℕ) (history : List Entry) → IsSoundPrelude t → SpellsHistory t bytes history
    → SpellsHistory t (history_text t history) history

-- each entry of a history that is legal from an opening library that verifies can be written, where its commands are within the limits
abbrev pub LegalHistoriesFit : Type 0
LegalHistoriesFit =
    (s : Setting) (lib0 : List Ranked) (history : List Entry) → Verifies s lib0 → EntriesFit s.prelude (map seen_entry history)
    → IsLegal s lib0 (map seen_entry history) → All (EntryFitsText s.prelude) history

-- and it is spelled by its canonical text, where it has at most 18,446,744,073,709,551,615 entries
abbrev pub LegalHistoriesAreSpelled : Type 0
LegalHistoriesAreSpelled =
    (s : Setting) (lib0 : List Ranked) (history : List Entry) → Verifies s lib0 → EntriesFit s.prelude (map seen_entry history)
    → IsLegal s lib0 (map seen_entry history) → length history ≤ highest_count
    → SpellsHistory s.prelude (history_text s.prelude history) history

-- a text spells at most one history
abbrev pub HistoryIsOne : Type 0
HistoryIsOne = (t : Tables) → SpellsOne (SpellsHistory t)

-- a text has at most one fault as a history
abbrev pub HistoryFaultIsOne : Type 0
HistoryFaultIsOne = (t : Tables) → HasOneFault (history_language t)

-- a text of at most 16,777,216 bytes that spells a history has no fault: it is not refused
abbrev pub HistoryHasNoFault : Type 0
HistoryHasNoFault = (t : Tables) → SpellsWithoutFault (history_language t) (SpellsHistory t)

-- a text with a fault spells none, unless it is longer than that, and this is its fault
abbrev pub FaultyIsNoHistory : Type 0
FaultyIsNoHistory = (t : Tables) → FailsByLength (history_language t) (SpellsHistory t)

-- every text spells one or has a fault
abbrev pub HistoryOrFault : Type 0
HistoryOrFault = (t : Tables) → SpellsOrFails (history_language t) (SpellsHistory t)

-- what a text spells by the grammar is what the language says whose faults are the texts'
abbrev pub HistoriesAreSaid : Type 0
HistoriesAreSaid = (t : Tables) → IsGrammarOf (history_language t) (SpellsHistory t)
