-- Of the code's inside, apart from the rules: how far an assertion was read over a prelude.
use Rattle.std.specs.Prelude.{◌≡◌, true}
use Rattle.mmsyntax.specs.Tables.{Tables}
use Rattle.mmsyntax.specs.Rows.{Units, no_units}
use Rattle.mmsyntax.specs.Faults.{Place, outside, at_start, Position}
use Rattle.statementreader.specs.Standing.{SuitsPlace}
use Rattle.mmunits.specs.Views.{known_of}

-- what is known of it, and the place
pub record UnitReading : Type 0 where
  pub units : Units
  pub place : Place

-- before its first token
abbrev pub nothing_read : UnitReading
nothing_read = record { units = no_units true; place = at_start outside }

-- the position over a prelude
abbrev pub position_of : Tables → UnitReading → Position
position_of t r = record { known = known_of t r.units; place = r.place }

-- no $c, $v or $f comes, and there is room in the block, over whichever prelude
pub record GoesOn (r : UnitReading) : Type 0 where
  pub closed : r.units.prelude_closed ≡ true
  pub stands : (t : Tables) → SuitsPlace (known_of t r.units) r.place
