-- Laws of what texts spell as databases, against their faults.
use Rattle.mmtext.specs.Laws.{IsGrammarOf, SpellsOne, SpellsWithoutFault, FailsByLength, SpellsOrFails}
use Rattle.mmsyntax.specs.Faults.{database_language}
use Rattle.mmsyntax.specs.Grammar.{Spells}

-- a text spells at most one database
abbrev pub DatabaseIsOne : Type 0
DatabaseIsOne = SpellsOne Spells

-- a text of at most 16,777,216 bytes that spells a database has no fault: it is not refused
abbrev pub DatabaseHasNoFault : Type 0
DatabaseHasNoFault = SpellsWithoutFault database_language Spells

-- a text with a fault spells no database, unless it is longer than that, and this is its fault
abbrev pub FaultyIsNoDatabase : Type 0
FaultyIsNoDatabase = FailsByLength database_language Spells

-- every text spells a database or has a fault
abbrev pub DatabaseOrFault : Type 0
DatabaseOrFault = SpellsOrFails database_language Spells

-- what a text spells by the grammar is what the language says whose faults are the texts'
abbrev pub DatabasesAreSaid : Type 0
DatabasesAreSaid = IsGrammarOf database_language Spells
