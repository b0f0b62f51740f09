-- Of the code's inside, apart from the rules: how far the reader of databases is seen to have come, and what is true of it between two
-- tokens.
use Rattle.std.specs.Prelude.{List}
use Rattle.mmsyntax.specs.declared.statement.Assertion.{Assertion}
use Rattle.mmsyntax.specs.Tables.{Tables, Contents}
use Rattle.mmsyntax.specs.Faults.{Position}
use Rattle.mmunits.specs.Views.{known_of}
use Rattle.statementreader.specs.Standing.{SuitsPlace}
use Rattle.statementreader.specs.Recalls.{RecallsTrue}
use Rattle.statementreader.specs.Views.{seen_place, seen_position}
use Rattle.mmreader.specs.declared.reading.DatabaseReader.{DatabaseReader}

-- the place of a reader of databases
abbrev pub database_place : DatabaseReader → Position
database_place r = seen_position r.symbols r.units r.place

-- it stands there, and what it keeps of words is so
abbrev pub IsReadyDatabase : DatabaseReader → Type 0
IsReadyDatabase r = SuitsPlace (known_of r.symbols r.units) (seen_place r.place) × RecallsTrue r.symbols r.recent

-- a database of two parts
abbrev pub contents_of : Tables → List Assertion → Contents
contents_of t xs = record { prelude = t; assertions = xs }
