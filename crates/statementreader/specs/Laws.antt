-- Laws of what texts spell as single assertions over a prelude, against their faults.
use Rattle.mmtext.specs.Laws.{IsGrammarOf, SpellsOne, SpellsWithoutFault, FailsByLength, SpellsOrFails}
use Rattle.mmsyntax.specs.Tables.{Tables}
use Rattle.mmsyntax.specs.Faults.{unit_language}
use Rattle.mmsyntax.specs.Grammar.{SpellsUnit}

-- a text spells at most one assertion over a prelude
abbrev pub UnitIsOne : Type 0
UnitIsOne = (t : Tables) → SpellsOne (SpellsUnit t)

-- a text of at most 16,777,216 bytes that spells one has no fault: it is not refused
abbrev pub UnitHasNoFault : Type 0
UnitHasNoFault = (t : Tables) → SpellsWithoutFault (unit_language t) (SpellsUnit t)

-- a text with a fault spells none, unless it is longer than that, and this is its fault
abbrev pub FaultyIsNoUnit : Type 0
FaultyIsNoUnit = (t : Tables) → FailsByLength (unit_language t) (SpellsUnit t)

-- every text spells one or has a fault
abbrev pub UnitOrFault : Type 0
UnitOrFault = (t : Tables) → SpellsOrFails (unit_language t) (SpellsUnit t)

-- what a text spells by the grammar is what the language says whose faults are the texts'
abbrev pub UnitsAreSaid : Type 0
UnitsAreSaid = (t : Tables) → IsGrammarOf (unit_language t) (SpellsUnit t)
