-- What is known so far, and the tests of declared symbols, labels and expressions, in order, with their faults.
use Rattle.std.specs.Prelude.{◌≡◌, ℕ, Bool, true, false, ◌||◌, ◌==◌, nat_lt, nat_le, List, [], ◌∷◌, ◌++◌, length, Option, Some, None}
use Rattle.std.specs.Prelude.{Result, Ok, Err, if◌then◌else◌, is_some}
use Rattle.std.specs.List.{list_any}
use Rattle.std.specs.Str.{bytes_eq}
use mathlib.Core.Bool.{not}
use Rattle.mmsyntax.specs.declared.statement.Symbol.{Symbol}
use Rattle.mmsyntax.specs.declared.statement.Symbol.TheVariants.{Const, Var}
use Rattle.mmsyntax.specs.declared.statement.Assertion.{Assertion}
use Rattle.mmsyntax.specs.declared.symbols.Name.{Name}
use Rattle.mmsyntax.specs.declared.symbols.Name.TheVariants.{Constant, Variable}
use Rattle.mmtext.specs.declared.fault.FaultKind.{FaultKind}
use Rattle.mmtext.specs.declared.fault.FaultKind.TheVariants.{BadToken, OutOfProfile, UnknownSymbol, RepeatedLabel, BadLabel}
use Rattle.mmtext.specs.declared.fault.FaultKind.TheVariants.{NoTypeFor, TooLong, LabelClashes}
use Rattle.mmtext.specs.Words.{Word, has_dollar, has_dot, has_hypothesis_form}
use Rattle.mmsyntax.specs.Tables.{Tables, meaning}
use Rattle.mmsyntax.specs.Dotted.{clash}
use Rattle.mmsyntax.specs.declared.limits.TheConstants.{MOST_ASSERTIONS, MOST_DECLARED, MOST_NAME_BYTES, MOST_SYMBOLS}

-- ---- what is known

-- the assertions so far; the labels of all $e so far, which are forgotten once a text is read; and whether the prelude is closed: in
-- the profile all $c, $v and $f come before the first assertion
pub record Units : Type 0 where
  pub assertions : List Assertion
  pub hypothesis_labels : List Word
  pub prelude_closed : Bool

-- what the statements so far declare
pub record Known : Type 0 where
  pub tables : Tables
  pub units : Units

-- no assertion, and the prelude closed or not
abbrev pub no_units : Bool → Units
no_units closed = record { assertions = []; hypothesis_labels = []; prelude_closed = closed }

-- before any statement
abbrev pub nothing : Known
nothing = record { tables = record { constants = []; variables = []; floats = [] }; units = no_units false }

-- behind a whole prelude
abbrev pub prelude_alone : Tables → Known
prelude_alone t = record { tables = t; units = no_units true }

-- $c, $v and $f may still stand here
abbrev pub in_prelude : Known → Bool
in_prelude k = not k.units.prelude_closed

-- an assertion has the label
abbrev pub is_assertion_label : List Assertion → Word → Bool
is_assertion_label xs w = list_any (λ a. bytes_eq w a.label) xs

-- the label is L.k of that of some assertion, or that of some assertion L.k of it (a rule of the profile)
abbrev pub clashes : List Assertion → Word → Bool
clashes xs w = list_any (λ a. clash a.label w) xs

-- an earlier $e, $a or $p has the label
abbrev pub is_unit_label : Units → Word → Bool
is_unit_label u w = is_assertion_label u.assertions w || list_any (bytes_eq w) u.hypothesis_labels

-- an earlier symbol or label: each label is unique, and none is a math symbol (section 4.1.3)
abbrev pub is_used : Known → Word → Bool
is_used k w = is_some (meaning k.tables w) || is_unit_label k.units w

-- ---- tests

-- a test that fails where its first part is true, with the fault
abbrev pub Tests : Type 0
Tests = List (Bool × FaultKind)

abbrev pub first_fault : Tests → Option FaultKind
first_fault [] = None
first_fault (t ∷ ts) = if t.0 then Some t.1 else first_fault ts

-- no test fails
abbrev pub Pass : Tests → Type 0
Pass ts = first_fault ts ≡ None

-- a symbol in $c or $v, where `count` are declared: a math symbol, not declared before (section 4.1.3), within the limits
abbrev pub symbol_tests : Known → ℕ → Word → Tests
symbol_tests k count w =
    (has_dollar w, BadToken)
    ∷ (nat_lt MOST_NAME_BYTES (length w), TooLong)
    ∷ (has_hypothesis_form w, OutOfProfile)
    ∷ (is_used k w, RepeatedLabel)
    ∷ (nat_le MOST_DECLARED count, TooLong)
    ∷ []

-- the label of a $f, once its keyword has passed: without a dot (a rule of the profile), and new (section 4.1.3); at most 65,535 stand
abbrev pub float_label_tests : Known → Word → Tests
float_label_tests k w =
    (has_dot w || nat_lt MOST_NAME_BYTES (length w), BadLabel)
    ∷ (is_used k w, RepeatedLabel)
    ∷ (nat_le MOST_DECLARED (length k.tables.floats), TooLong)
    ∷ []

-- the label of a $a or $p, once its keyword has passed: new (section 4.1.3), and apart from those of the earlier assertions, of which at
-- most 4,096 stand
abbrev pub assertion_label_tests : Known → Word → Tests
assertion_label_tests k w =
    (nat_lt MOST_NAME_BYTES (length w), BadLabel)
    ∷ (is_used k w, RepeatedLabel)
    ∷ (clashes k.units.assertions w, LabelClashes)
    ∷ (nat_le MOST_ASSERTIONS (length k.units.assertions), TooLong)
    ∷ []

-- ---- symbols

-- the symbol that a word is, or why it is none: the first symbol of an expression is a constant, and each variable has
-- its $f (section 4.1.3)
abbrev pub symbol_named : Bool → Option Name → Result Symbol FaultKind
symbol_named first (Some (Constant i)) = Ok (Const i)
symbol_named false (Some (Variable i (Some j))) = Ok (Var j)
symbol_named false (Some (Variable i None)) = Err NoTypeFor
symbol_named first _ = Err UnknownSymbol

-- at most 65,535 symbols
abbrev pub unless_full : ℕ → Result Symbol FaultKind → Result Symbol FaultKind
unless_full count (Ok s) = if nat_le MOST_SYMBOLS count then Err TooLong else Ok s
unless_full count (Err kind) = Err kind

-- a word behind `count` symbols of an expression
unfoldable pub symbol_of : Tables → ℕ → Word → Result Symbol FaultKind
symbol_of t count w = if has_dollar w then Err BadToken else unless_full count (symbol_named (count == 0) (meaning t w))

-- the type of a $f is a declared constant (section 4.1.3)
abbrev pub type_named : Option Name → Result ℕ FaultKind
type_named (Some (Constant i)) = Ok i
type_named _ = Err UnknownSymbol

-- its variable is declared and has no $f yet (section 4.1.3)
abbrev pub variable_named : Option Name → Result ℕ FaultKind
variable_named (Some (Variable i None)) = Ok i
variable_named (Some (Variable i (Some j))) = Err RepeatedLabel
variable_named _ = Err UnknownSymbol

-- a token with a $ is no declared symbol
unfoldable pub type_of : Tables → Word → Result ℕ FaultKind
type_of t w = if has_dollar w then Err UnknownSymbol else type_named (meaning t w)

-- the same of the variable
unfoldable pub variable_of : Tables → Word → Result ℕ FaultKind
variable_of t w = if has_dollar w then Err UnknownSymbol else variable_named (meaning t w)

-- ---- what statements declare

-- one more constant
abbrev pub with_constant : Known → Word → Known
with_constant k w = record k { tables = record k.tables { constants = k.tables.constants ++ w ∷ [] } }

-- one more variable
abbrev pub with_variable : Known → Word → Known
with_variable k w = record k { tables = record k.tables { variables = k.tables.variables ++ w ∷ [] } }

-- one more $f
abbrev pub with_float : Known → Word → ℕ → ℕ → Known
with_float k w i v =
    record k { tables = record k.tables { floats = k.tables.floats ++ record { label = w; type_code = i; variable = v } ∷ [] } }

-- one more label of a $e
abbrev pub with_hypothesis_label : Known → Word → Known
with_hypothesis_label k w = record k { units = record k.units { hypothesis_labels = k.units.hypothesis_labels ++ w ∷ [] } }

-- one more assertion, which closes the prelude
abbrev pub with_assertion : Known → Assertion → Known
with_assertion k a = record k { units = record k.units { assertions = k.units.assertions ++ a ∷ []; prelude_closed = true } }
