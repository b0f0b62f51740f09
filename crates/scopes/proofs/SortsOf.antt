-- What a word is, from the name that is noted for it.
use Rattle.std.proofs.Common.{◌≡◌, ℕ, Bool, true, false, cond, Option, Some, None, sym, ap, subst, ◌∙◌}
use Rattle.std.specs.Prelude.{is_some}
use Rattle.std.specs.List.{slice_get}
use Rattle.std.specs.Option.{option_map_or, option_and_then}
use Rattle.std.specs.Str.{bytes_eq}
use Rattle.mmtext.specs.Words.{Word}
use Rattle.source.specs.Scopes.{Scope, label_of, is_float_of}
use Rattle.scopes.specs.declared.tables.Name.TheVariants as name
use Rattle.scopes.specs.declared.sorts.Sort.TheVariants as sort
use Rattle.scopes.specs.Found.{Found, passes_at, passing}
use Rattle.scopes.specs.Sound.{KnowsWord}
use Rattle.scopes.specs.Sorts.{IsSortOf}
use Rattle.scopes.proofs.Found.{found_any, found_find, found_none, finds_none, some_there, found_there}

passing_there : {A : Type 0} (test : A → Bool) (o : Option A) → option_map_or test o false ≡ true → option_and_then (passing test) o ≡ o
passing_there test None h = absurd cc
passing_there test (Some x) h = ap (λ b. cond b (Some x) None) h

pub sort_unknown : (s : Scope) (w : Word) → KnowsWord s w None → IsSortOf s w sort.Unknown
sort_unknown s w k = record {
  constant = k.constant;
  symbol = k.symbol;
  label = k.label;
  active = found_any _ _ _ k.variable;
  typed = found_any _ _ _ k.float;
  float = k.float;
  hypothesis = found_any _ _ _ k.hypothesis;
  place = k.hypothesis;
  assertion = found_any _ _ _ k.assertion;
  noted = k.assertion;
  first = found_find _ _ _ k.assertion;
}

pub sort_constant : (s : Scope) (w : Word) → KnowsWord s w (Some name.Constant) → IsSortOf s w sort.Constant
sort_constant s w k = record {
  constant = k.constant;
  symbol = k.symbol;
  label = k.label;
  active = found_any _ _ _ k.variable;
  typed = found_any _ _ _ k.float;
  float = k.float;
  hypothesis = found_any _ _ _ k.hypothesis;
  place = k.hypothesis;
  assertion = found_any _ _ _ k.assertion;
  noted = k.assertion;
  first = found_find _ _ _ k.assertion;
}

pub sort_variable : (s : Scope) (w : Word) (i : ℕ) (f float : Option ℕ) (active : Bool) → KnowsWord s w (Some (name.Variable i f))
    → active ≡ passes_at (bytes_eq w) s.variables (Some i) → float ≡ cond (passes_at (is_float_of w) s.hypotheses f) f None
    → IsSortOf s w (sort.Variable active float)
sort_variable s w i f float active k a t = record {
  constant = k.constant;
  symbol = k.symbol;
  label = k.label;
  active = found_any _ _ _ k.variable ∙ sym a;
  typed = found_any _ _ _ k.float ∙ sym (some_there _ _ f) ∙ ap is_some (sym t);
  float = subst (λ o. Found (is_float_of w) s.hypotheses o) (sym t) (found_there _ _ f k.float);
  hypothesis = found_any _ _ _ k.hypothesis;
  place = k.hypothesis;
  assertion = found_any _ _ _ k.assertion;
  noted = k.assertion;
  first = found_find _ _ _ k.assertion;
}

pub sort_hypothesis : (s : Scope) (w : Word) (i : ℕ) → KnowsWord s w (Some (name.Hypothesis i))
    → passes_at (λ h. bytes_eq w (label_of h)) s.hypotheses (Some i) ≡ true → IsSortOf s w (sort.Hypothesis i)
sort_hypothesis s w i k there = record {
  constant = k.constant;
  symbol = k.symbol;
  label = k.label;
  active = found_any _ _ _ k.variable;
  typed = found_any _ _ _ k.float;
  float = k.float;
  hypothesis = found_any _ _ _ k.hypothesis ∙ there;
  place = k.hypothesis;
  assertion = found_any _ _ _ k.assertion;
  noted = k.assertion;
  first = found_find _ _ _ k.assertion;
}

pub sort_assertion : (s : Scope) (w : Word) (i : ℕ) → KnowsWord s w (Some (name.Assertion i))
    → passes_at (λ a. bytes_eq w a.label) s.assertions (Some i) ≡ true → IsSortOf s w (sort.Assertion i)
sort_assertion s w i k there = record {
  constant = k.constant;
  symbol = k.symbol;
  label = k.label;
  active = found_any _ _ _ k.variable;
  typed = found_any _ _ _ k.float;
  float = k.float;
  hypothesis = found_any _ _ _ k.hypothesis;
  place = k.hypothesis;
  assertion = found_any _ _ _ k.assertion ∙ there;
  noted = k.assertion;
  first = found_find _ _ _ k.assertion ∙ passing_there _ (slice_get s.assertions i) there;
}

pub closed_hypothesis : (s : Scope) (w : Word) (i : ℕ) → KnowsWord s w (Some (name.Hypothesis i))
    → passes_at (λ h. bytes_eq w (label_of h)) s.hypotheses (Some i) ≡ false → IsSortOf s w sort.Closed
closed_hypothesis s w i k gone =
    let none = found_any (λ h. bytes_eq w (label_of h)) s.hypotheses (Some i) k.hypothesis ∙ gone in
    record {
      constant = k.constant;
      symbol = k.symbol;
      label = k.label;
      active = found_any _ _ _ k.variable;
      typed = found_any _ _ _ k.float;
      float = k.float;
      hypothesis = none;
      place = found_none _ _ None none;
      assertion = found_any _ _ _ k.assertion;
      noted = k.assertion;
      first = found_find _ _ _ k.assertion;
    }

pub closed_assertion : (s : Scope) (w : Word) (i : ℕ) → KnowsWord s w (Some (name.Assertion i))
    → passes_at (λ a. bytes_eq w a.label) s.assertions (Some i) ≡ false → IsSortOf s w sort.Closed
closed_assertion s w i k gone =
    let none = found_any (λ a. bytes_eq w a.label) s.assertions (Some i) k.assertion ∙ gone in
    record {
      constant = k.constant;
      symbol = k.symbol;
      label = k.label;
      active = found_any _ _ _ k.variable;
      typed = found_any _ _ _ k.float;
      float = k.float;
      hypothesis = found_any _ _ _ k.hypothesis;
      place = k.hypothesis;
      assertion = none;
      noted = found_none _ _ None none;
      first = finds_none (λ a. bytes_eq w a.label) s.assertions none;
    }
