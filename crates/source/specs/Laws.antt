-- Laws of what texts declare as sources, against their faults.
use Rattle.mmtext.specs.Laws.{IsGrammarOf, SpellsOne, SpellsWithoutFault, FailsByLength, SpellsOrFails}
use Rattle.source.specs.Sources.{DeclaresText}
use Rattle.source.specs.Faults.{source_language}

-- a text declares at most one source
abbrev pub SourceIsOne : Type 0
SourceIsOne = SpellsOne DeclaresText

-- a text of at most 268,435,456 bytes that declares a source has no fault: it is not refused
abbrev pub SourceHasNoFault : Type 0
SourceHasNoFault = SpellsWithoutFault source_language DeclaresText

-- a text with a fault declares no source, unless it is longer than that, and this is its fault
abbrev pub FaultyIsNoSource : Type 0
FaultyIsNoSource = FailsByLength source_language DeclaresText

-- every text declares a source or has a fault
abbrev pub SourceOrFault : Type 0
SourceOrFault = SpellsOrFails source_language DeclaresText

-- what a text declares by the grammar is what the table of faults says
abbrev pub SourcesAreSaid : Type 0
SourcesAreSaid = IsGrammarOf source_language DeclaresText
