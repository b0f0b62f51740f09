-- Of the code's inside, apart from the rules: what may stand behind what stands already.
use Rattle.std.specs.Prelude.{◌≡◌, ◌<◌, ℕ, false, length, Some, None, IsTrue}
use Rattle.mmsyntax.specs.declared.statement.Float.{Float}
use Rattle.mmsyntax.specs.declared.statement.Assertion.{Assertion}
use Rattle.mmsyntax.specs.declared.symbols.Name.TheVariants.{Variable}
use Rattle.mmtext.specs.Words.{Word}
use Rattle.mmsyntax.specs.Tables.{Tables, meaning}
use Rattle.mmsyntax.specs.Rows.{Units, is_unit_label, clashes}
use Rattle.mmsyntax.specs.Layout.{word_at}
use Rattle.mmsyntax.specs.Preludes.{IsSymbolWord, IsFloatSound}
use Rattle.mmsyntax.specs.Assertions.{IsUnit, is_lawful_label}

-- a constant or a variable that isn't declared yet
pub record IsNewSymbol (t : Tables) (w : Word) : Type 0 where
  pub word : IsSymbolWord w
  pub new : meaning t w ≡ None

-- a variable stands at a place, and has no $f
pub record IsFreeVariable (t : Tables) (v : ℕ) : Type 0 where
  pub within : v < length t.variables
  pub free : meaning t (word_at t.variables v) ≡ Some (Variable v None)

-- a $f with a new label, a declared type, and a variable that has none
pub record IsNewFloat (t : Tables) (f : Float) : Type 0 where
  pub sound : IsFloatSound t f
  pub new : meaning t f.label ≡ None
  pub variable : IsFreeVariable t f.variable

-- an assertion over a prelude, with a lawful label that no unit has, and that clashes with that of none
pub record IsAdmissible (t : Tables) (u : Units) (a : Assertion) : Type 0 where
  pub unit : IsUnit t a
  pub lawful : IsTrue (is_lawful_label t a.label)
  pub new : is_unit_label u a.label ≡ false
  pub clear : clashes u.assertions a.label ≡ false
