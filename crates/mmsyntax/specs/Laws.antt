-- Laws of databases, of single assertions and of preludes.
use Rattle.std.specs.Prelude.{◌↔◌}
use Rattle.mmtext.specs.Laws.{HasOneFault}
use Rattle.mmsyntax.specs.Tables.{Tables}
use Rattle.mmsyntax.specs.Faults.{database_language, unit_language}
use Rattle.mmsyntax.specs.Layout.{IsSoundPrelude}
use Rattle.mmsyntax.specs.Preludes.{AreSound}

-- some text declares a prelude, and no assertion, just where its names differ, each $f has a declared type and variable, a variable has
-- one $f at most, and all is within the limits
abbrev pub SoundWhereApart : Type 0
SoundWhereApart = (t : Tables) → IsSoundPrelude t ↔ AreSound t

-- a text has at most one fault as a database
abbrev pub DatabaseFaultIsOne : Type 0
DatabaseFaultIsOne = HasOneFault database_language

-- over a prelude a text has at most one fault as an assertion
abbrev pub UnitFaultIsOne : Type 0
UnitFaultIsOne = (t : Tables) → HasOneFault (unit_language t)
