-- Of the code's inside, apart from the rules: how far the reader of single assertions is seen to have come, and what is true of it
-- between two tokens.
use Rattle.mmsyntax.specs.Rows.{Units}
use Rattle.mmsyntax.specs.Faults.{Position}
use Rattle.statementreader.specs.declared.place.Place.{Place as CodePlace}
use Rattle.statementreader.specs.declared.units.AssertionReader.{AssertionReader}
use Rattle.statementreader.specs.UnitReadings.{GoesOn}
use Rattle.statementreader.specs.Views.{seen_place, seen_position, IsUnitPlace}

-- the place of a reader of single assertions
abbrev pub assertion_place : AssertionReader → Position
assertion_place r = seen_position r.symbols.now r.units r.place

-- no $c, $v or $f comes there
pub record IsReadyUnit (p : CodePlace) (u : Units) : Type 0 where
  pub unit : IsUnitPlace p
  pub goes_on : GoesOn (record { units = u; place = seen_place p })
