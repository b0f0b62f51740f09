-- Of the code's inside, apart from the rules: what a word is in a scope.
use Rattle.std.specs.Prelude.{◌≡◌, ℕ, Bool, true, false, List, Option, Some, None, slice_get, find, is_some}
use Rattle.std.specs.List.{list_any}
use Rattle.std.specs.Str.{bytes_eq}
use Rattle.mmtext.specs.Words.{Word}
use Rattle.source.specs.Scopes.{Scope, Assertion, label_of, is_in, is_float_of, has_float}
use Rattle.scopes.specs.declared.sorts.Sort.{Sort}
use Rattle.scopes.specs.declared.sorts.Sort.TheVariants.{Constant, Variable, Hypothesis, Assertion as AnAssertion, Closed}
use Rattle.scopes.specs.Found.{Found}

abbrev pub is_constant : Sort → Bool
is_constant Constant = true
is_constant _ = false

abbrev pub is_symbol : Sort → Bool
is_symbol Constant = true
is_symbol (Variable active float) = true
is_symbol _ = false

abbrev pub is_label_name : Sort → Bool
is_label_name (Hypothesis i) = true
is_label_name (AnAssertion i) = true
is_label_name Closed = true
is_label_name _ = false

abbrev pub is_active : Sort → Bool
is_active (Variable active float) = active
is_active _ = false

abbrev pub float_place : Sort → Option ℕ
float_place (Variable active float) = float
float_place _ = None

abbrev pub hypothesis_place : Sort → Option ℕ
hypothesis_place (Hypothesis i) = Some i
hypothesis_place _ = None

abbrev pub assertion_in : List Assertion → Sort → Option Assertion
assertion_in xs (AnAssertion i) = slice_get xs i
assertion_in xs _ = None

abbrev pub assertion_place : Sort → Option ℕ
assertion_place (AnAssertion i) = Some i
assertion_place _ = None

abbrev pub is_assertion : Sort → Bool
is_assertion (AnAssertion i) = true
is_assertion _ = false

-- what a word is
pub record IsSortOf (s : Scope) (w : Word) (sort : Sort) : Type 0 where
  pub constant : is_in s.constants w ≡ is_constant sort
  pub symbol : is_in s.symbols w ≡ is_symbol sort
  pub label : is_in s.labels w ≡ is_label_name sort
  pub active : is_in s.variables w ≡ is_active sort
  pub typed : has_float s w ≡ is_some (float_place sort)
  pub float : Found (is_float_of w) s.hypotheses (float_place sort)
  pub hypothesis : list_any (λ h. bytes_eq w (label_of h)) s.hypotheses ≡ is_some (hypothesis_place sort)
  pub place : Found (λ h. bytes_eq w (label_of h)) s.hypotheses (hypothesis_place sort)
  pub assertion : list_any (λ a. bytes_eq w a.label) s.assertions ≡ is_assertion sort
  pub noted : Found (λ a. bytes_eq w a.label) s.assertions (assertion_place sort)
  pub first : find (λ a. bytes_eq w a.label) s.assertions ≡ assertion_in s.assertions sort
