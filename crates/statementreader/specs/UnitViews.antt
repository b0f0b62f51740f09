-- Of the code's inside, apart from the rules: what the reader of a single assertion gives for a token.
use Rattle.std.specs.Prelude.{◌≡◌, Bool, true, false, Some, None, Result, Ok, Err}
use Rattle.mmtext.specs.declared.fault.Stop.{Stop}
use Rattle.mmtext.specs.declared.fault.Stop.TheVariants as stop
use Rattle.mmtext.specs.declared.fault.TextFault.{TextFault}
use Rattle.mmtext.specs.Views.{Fails}
use Rattle.mmtext.specs.Words.{has_dollar}
use Rattle.mmtext.specs.Text.{Token}
use Rattle.mmsyntax.specs.Tables.{Tables}
use Rattle.mmsyntax.specs.Faults.{Position, row, unit_at}
use Rattle.statementreader.specs.declared.unit_reader.UnitProgress.{UnitProgress}
use Rattle.statementreader.specs.declared.unit_reader.UnitProgress.TheVariants.{Within, Whole}
use Rattle.statementreader.specs.UnitReadings.{UnitReading, position_of}
use Rattle.mmunits.specs.Views.{known_of}

-- within the assertion, or with the whole assertion behind it
abbrev pub IsProgress : Tables → UnitProgress → Position → Type 0
IsProgress t (Within r) p = (p ≡ position_of t r) × (unit_at p.known p.place ≡ None)
IsProgress t (Whole a) p = unit_at p.known p.place ≡ Some a

-- what a function returned is where a row leads, or why it doesn't lead on
abbrev pub Progresses : Tables → Result UnitProgress Stop → Result Position TextFault → Type 0
Progresses t (Ok u) (Ok p) = IsProgress t u p
Progresses t (Ok u) (Err f) = ⊥
Progresses t (Err e) read = Fails e read

-- whether a function took a word without $ of an assertion, which it doesn't end, and what was read then
abbrev pub TakesInUnit : Tables → UnitReading → Token → UnitReading → Result Bool Stop → Type 0
TakesInUnit t old w new (Ok true) =
    (has_dollar w.text ≡ false) × (row (position_of t old) w ≡ Ok (position_of t new)) × (unit_at (known_of t new.units) new.place ≡ None)
TakesInUnit t old w new (Ok false) = new ≡ old
TakesInUnit t old w new (Err stop.Memory) = Unit {0}
TakesInUnit t old w new (Err (stop.Fault f)) = (has_dollar w.text ≡ false) × (row (position_of t old) w ≡ Err f)
