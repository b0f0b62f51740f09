-- Which preludes are sound: names differ, each $f has a declared type and a declared variable, a variable has one $f, and all is
-- within the limits (Metamath book, sections 4.1.1 and 4.1.3).
use Rattle.std.specs.Prelude.{◌≡◌, ◌≢◌, ◌<◌, ◌≤◌, ◌||◌, ◌==◌, ℕ, false, nat_lt, List, [], ◌++◌, length, map, IsTrue}
use Rattle.std.specs.List.{AllByRecursion}
use Rattle.std.specs.Str.{bytes_eq}
use Rattle.mmtext.specs.Words.{Word, has_dollar, has_dot, is_label, has_hypothesis_form}
use Rattle.mmtext.specs.Text.{is_printable}
use Rattle.mmsyntax.specs.declared.statement.Float.{Float}
use Rattle.mmsyntax.specs.Tables.{Tables}
use Rattle.mmsyntax.specs.Assertions.{Distinct}
use Rattle.mmsyntax.specs.declared.limits.TheConstants.{MOST_DECLARED, MOST_NAME_BYTES}

-- ---- words

-- a byte of a token: one of the 94 printable characters (section 4.1.1)
abbrev pub IsPrintable : ℕ → Type 0
IsPrintable b = IsTrue (is_printable b)

-- what a token may be
abbrev pub IsWord : Word → Type 0
IsWord w = (w ≢ []) × AllByRecursion IsPrintable w

-- a math symbol: a word without $, of at most 255 bytes, that no hypothesis may have as label (section 4.1.1)
pub record IsSymbolWord (w : Word) : Type 0 where
  pub no_dollar : has_dollar w ≡ false
  pub short : nat_lt MOST_NAME_BYTES (length w) ≡ false
  pub form : has_hypothesis_form w ≡ false
  pub word : IsWord w

-- the label of a $f: a label token without a dot, of at most 255 bytes (section 4.1.1)
pub record IsLabelWord (w : Word) : Type 0 where
  pub label : IsTrue (is_label w)
  pub plain : (has_dot w || nat_lt MOST_NAME_BYTES (length w)) ≡ false
  pub word : IsWord w

-- ---- names

-- the labels of $f
abbrev pub float_labels : List Float → List Word
float_labels fs = map (λ f. f.label) fs

-- all symbols and labels of a prelude
abbrev pub prelude_names : Tables → List Word
prelude_names t = t.constants ++ (t.variables ++ float_labels t.floats)

-- the variables that have a $f
abbrev pub variables_used : List Float → List ℕ
variables_used fs = map (λ f. f.variable) fs

-- ---- preludes

-- a $f has a lawful label, the place of a declared constant, and that of a declared variable (section 4.1.3)
pub record IsFloatSound (t : Tables) (f : Float) : Type 0 where
  pub label : IsLabelWord f.label
  pub type_within : f.type_code < length t.constants
  pub variable_within : f.variable < length t.variables

-- no two names are equal (section 4.1.3), symbols and $f are lawful, a variable has one $f at most, and of each there are at most 65,535
pub record AreSound (t : Tables) : Type 0 where
  pub distinct : Distinct bytes_eq (prelude_names t)
  pub constants_sound : AllByRecursion IsSymbolWord t.constants
  pub variables_sound : AllByRecursion IsSymbolWord t.variables
  pub floats_sound : AllByRecursion (IsFloatSound t) t.floats
  pub apart : Distinct (λ u v. u == v) (variables_used t.floats)
  pub constants_fit : length t.constants ≤ MOST_DECLARED
  pub variables_fit : length t.variables ≤ MOST_DECLARED
  pub floats_fit : length t.floats ≤ MOST_DECLARED
