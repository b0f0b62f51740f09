-- What the tests of a statement say of its words.
use Rattle.std.proofs.Common.{◌≡◌, Bool, true, false, List, [], ◌∷◌, refl}
use Rattle.std.specs.Prelude.{◌&&◌, ◌||◌, is_none}
use mathlib.Core.Bool.{not}
use Rattle.mmtext.specs.declared.fault.FaultKind.TheVariants.{BadToken, UnknownSymbol, RepeatedLabel, NotActive}
use Rattle.mmtext.specs.Words.{Word, has_dollar, is_label}
use Rattle.mmsyntax.specs.Rows.{first_fault}
use Rattle.source.specs.Statements.{float, hypothesis, asserted}
use Rattle.source.specs.Scopes.{Scope, is_in, has_float}
use Rattle.source.specs.Tests.{is_lawful, a_constant, a_variable, passes, type_tests, is_expression}

constant_bools : (o d l m : Bool)
    → (o && true && (is_none (first_fault ((d, BadToken) ∷ (l || m, RepeatedLabel) ∷ [])) && true)) ≡ true → (l ≡ false) × (m ≡ false)
constant_bools false d l m h = absurd cc
constant_bools true true l m h = absurd cc
constant_bools true false true m h = absurd cc
constant_bools true false false true h = absurd cc
constant_bools true false false false h = (refl, refl)

-- a new constant has no name
pub lawful_constant : (s : Scope) (c : Word) → is_lawful s (a_constant c) ≡ true → (is_in s.labels c ≡ false) × (is_in s.symbols c ≡ false)
lawful_constant s c h = constant_bools s.outermost (has_dollar c) (is_in s.labels c) (is_in s.symbols c) h

variable_bools : (d l c v : Bool)
    → (true && (is_none (first_fault ((d, BadToken) ∷ (l || c || v, RepeatedLabel) ∷ [])) && true)) ≡ true
    → (l ≡ false) × (c ≡ false) × (v ≡ false)
variable_bools true l c v h = absurd cc
variable_bools false true c v h = absurd cc
variable_bools false false true v h = absurd cc
variable_bools false false false true h = absurd cc
variable_bools false false false false h = (refl, refl, refl)

-- a new variable is no label, no constant and no active variable
pub lawful_variable : (s : Scope) (v : Word) → is_lawful s (a_variable v) ≡ true
    → (is_in s.labels v ≡ false) × (is_in s.constants v ≡ false) × (is_in s.variables v ≡ false)
lawful_variable s v h = variable_bools (has_dollar v) (is_in s.labels v) (is_in s.constants v) (is_in s.variables v) h

label_bools : (n l m rest : Bool) → (n && is_none (first_fault ((l || m, RepeatedLabel) ∷ [])) && rest) ≡ true → (l ≡ false) × (m ≡ false)
label_bools false l m rest h = absurd cc
label_bools true true m rest h = absurd cc
label_bools true false true rest h = absurd cc
label_bools true false false rest h = (refl, refl)

-- a new label has no name
pub lawful_hypothesis : (s : Scope) (label : Word) (ws : List Word) → is_lawful s (hypothesis label ws) ≡ true
    → (is_in s.labels label ≡ false) × (is_in s.symbols label ≡ false)
lawful_hypothesis s label ws h = label_bools (is_label label) (is_in s.labels label) (is_in s.symbols label) (is_expression s ws) h

pub lawful_asserted : (s : Scope) (label : Word) (ws : List Word) → is_lawful s (asserted label ws) ≡ true
    → (is_in s.labels label ≡ false) × (is_in s.symbols label ≡ false)
lawful_asserted s label ws h = label_bools (is_label label) (is_in s.labels label) (is_in s.symbols label) (is_expression s ws) h

float_bools : (n l m t d y c v f : Bool)
    → (n && is_none (first_fault ((l || m, RepeatedLabel) ∷ [])) && t
    && is_none (first_fault ((d, BadToken) ∷ (not y || c, UnknownSymbol) ∷ (not v, NotActive) ∷ (f, RepeatedLabel) ∷ []))) ≡ true
    → (l ≡ false) × (m ≡ false) × (y ≡ true) × (c ≡ false) × (f ≡ false)
float_bools false l m t d y c v f h = absurd cc
float_bools true true m t d y c v f h = absurd cc
float_bools true false true t d y c v f h = absurd cc
float_bools true false false false d y c v f h = absurd cc
float_bools true false false true true y c v f h = absurd cc
float_bools true false false true false false c v f h = absurd cc
float_bools true false false true false true true v f h = absurd cc
float_bools true false false true false true false false f h = absurd cc
float_bools true false false true false true false true true h = absurd cc
float_bools true false false true false true false true false h = (refl, refl, refl, refl, refl)

-- the label of a $f has no name, and its variable is a variable without a $f
pub lawful_float : (s : Scope) (label c v : Word) → is_lawful s (float label c v) ≡ true
    → (is_in s.labels label ≡ false) × (is_in s.symbols label ≡ false) × (is_in s.symbols v ≡ true) × (is_in s.constants v ≡ false)
    × (has_float s v ≡ false)
lawful_float s label c v h = float_bools (is_label label) (is_in s.labels label) (is_in s.symbols label) (passes (type_tests s c))
    (has_dollar v) (is_in s.symbols v) (is_in s.constants v) (is_in s.variables v) (has_float s v) h
