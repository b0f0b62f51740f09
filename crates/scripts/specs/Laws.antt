-- Laws of what texts spell as scripts over a prelude, against their faults.
use Rattle.mmtext.specs.Laws.{IsGrammarOf, SpellsOne, HasOneFault, SpellsWithoutFault, FailsByLength, SpellsOrFails}
use Rattle.mmsyntax.specs.Tables.{Tables}
use Rattle.scripts.specs.Scripts.{SpellsScript}
use Rattle.scripts.specs.ScriptFaults.{script_language}

-- a text spells at most one script
abbrev pub ScriptIsOne : Type 0
ScriptIsOne = (t : Tables) → SpellsOne (SpellsScript t)

-- a text has at most one fault as a script
abbrev pub ScriptFaultIsOne : Type 0
ScriptFaultIsOne = (t : Tables) → HasOneFault (script_language t)

-- a text of at most 16,777,216 bytes that spells a script has no fault: it is not refused
abbrev pub ScriptHasNoFault : Type 0
ScriptHasNoFault = (t : Tables) → SpellsWithoutFault (script_language t) (SpellsScript t)

-- a text with a fault spells none, unless it is longer than that, and this is its fault
abbrev pub FaultyIsNoScript : Type 0
FaultyIsNoScript = (t : Tables) → FailsByLength (script_language t) (SpellsScript t)

-- every text spells one or has a fault
abbrev pub ScriptOrFault : Type 0
ScriptOrFault = (t : Tables) → SpellsOrFails (script_language t) (SpellsScript t)

-- what a text spells by the grammar is what the language says whose faults are the texts'
abbrev pub ScriptsAreSaid : Type 0
ScriptsAreSaid = (t : Tables) → IsGrammarOf (script_language t) (SpellsScript t)
