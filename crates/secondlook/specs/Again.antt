-- A library that was taken again of a source with edits: it is the edited one.
use Rattle.std.specs.Prelude.{◌≡◌, ℕ, List, All, slice_get, Some}
use Rattle.std.specs.List.{flat_map}
use Rattle.mmtext.specs.Words.{Word}
use Rattle.mmsyntax.specs.declared.statement.Float.{Float}
use Rattle.mmsyntax.specs.declared.symbols.Name.TheVariants.{Label}
use Rattle.mmsyntax.specs.Tables.{Tables, Contents, meaning}
use Rattle.mmsyntax.specs.Layout.{assertion_text}
use Rattle.source.specs.Scopes.{Scope}
use Rattle.taking.specs.declared.reason.Reason.{Reason}
use Rattle.taking.specs.Names.{Naming}
use Rattle.taking.specs.Reasons.{Choice}
use Rattle.taking.specs.Taken.{Takes}
use Rattle.library.specs.Library.{Listed}

-- a $f has this label, and its type and its variable have these names
pub record IsFloatNamed (t : Tables) (label constant variable : Word) (f : Float) : Type 0 where
  pub labelled : f.label ≡ label
  pub typed : slice_get t.constants f.type_code ≡ Some constant
  pub of : slice_get t.variables f.variable ≡ Some variable

-- a label names a $f of a prelude
pub record IsFloatLabelled (t : Tables) (label : Word) (f : Float) : Type 0 where
  pub labelled : f.label ≡ label
  pub place : ℕ
  pub names : meaning t label ≡ Some (Label place)
  pub stands : slice_get t.floats place ≡ Some f

-- a $f of a prelude is one of the other, by these names
pub record IsFloatOf (t other : Tables) (f : Float) : Type 0 where
  pub constant : Word
  pub variable : Word
  pub named : IsFloatNamed t f.label constant variable f
  pub found : Float
  pub there : IsFloatLabelled other f.label found
  pub named_there : IsFloatNamed other f.label constant variable found

-- the lines of assertions
abbrev pub database_lines : Contents → List ℕ
database_lines db = flat_map (assertion_text db.prelude) db.assertions

abbrev pub edited_lines : Listed → List ℕ
edited_lines l = flat_map (λ r. assertion_text l.setting.prelude r.assertion) l.entries

-- the assertions of the library, taken again by the labels that they have then, are those to which the history leads, byte for byte, over
-- $f of its prelude
pub record IsTakenAgain (now : Scope) (labels : List Word) (edited : Listed) (choice : Choice) (axioms : List (Word
    × Reason)) : Type 0 where
  pub chosen : choice.chosen ≡ labels
  pub db : Contents
  pub names : List Naming
  pub takes : Takes now choice db axioms names
  pub floats : All (IsFloatOf db.prelude edited.setting.prelude) db.prelude.floats
  pub same : database_lines db ≡ edited_lines edited
