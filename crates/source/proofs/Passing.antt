-- What passing tests say of a word: it has no $, and it is declared where the test asks for that.
use Rattle.std.proofs.Common.{◌≡◌, ℕ, Bool, true, false, cond, eqb, List, [], ◌∷◌, ◌++◌, Option, Some, None, refl, sym, ap, subst, ◌∙◌}
use Rattle.std.proofs.Common.{inl, inr}
use Rattle.std.specs.Prelude.{is_none, codes, ◌||◌, ◌&&◌}
use Rattle.std.specs.List.{list_any, list_all}
use Rattle.std.specs.Str.{bytes_eq}
use mathlib.Core.Bool.{not}
use Rattle.std.proofs.lemmas.Bool.{cases_Bool, eqb-true, and_parts, and_from, not-false}
use Rattle.mmtext.specs.declared.fault.FaultKind.{FaultKind}
use Rattle.mmtext.specs.declared.fault.FaultKind.TheVariants.{BadToken, UnknownLabel, NotActive}
use Rattle.mmtext.specs.Words.{Word, has_dollar}
use Rattle.mmtext.proofs.Marks.{same_word}
use Rattle.mmsyntax.specs.Rows.{Tests, first_fault}
use Rattle.source.specs.Scopes.{Scope, label_of, is_in, mandatory, is_unknown, is_named}
use Rattle.source.specs.Proofs.{labels_go_on}
use Rattle.source.specs.Tests.{passes, constant_tests, variable_tests, type_tests, float_tests, distinct_tests, symbol_tests, named_tests}
use Rattle.source.specs.Tests.{step_tests, cited_tests, letter_tests, is_letter}

-- ---- three tests in one

pub three_parts : (a b c : Bool) → (a && b && c) ≡ true → (a ≡ true) × (b ≡ true) × (c ≡ true)
three_parts a b c h =
    let front = and_parts (a && b) c h in
    let both = and_parts a b front.0 in
    (both.0, both.1, front.1)

pub three_from : (a b c : Bool) → a ≡ true → b ≡ true → c ≡ true → (a && b && c) ≡ true
three_from a b c h g k = and_from (a && b) c (and_from a b h g) k

-- ---- first faults

no_fault_in : (o : Option FaultKind) → is_none o ≡ true → o ≡ None
no_fault_in None h = refl
no_fault_in (Some kind) h = absurd cc

-- no test is the first that fails
pub no_fault : (ts : Tests) → passes ts ≡ true → first_fault ts ≡ None
no_fault ts h = no_fault_in (first_fault ts) h

-- the first test passes, and so do the others
abbrev pub EachClear : Tests → Type 0
EachClear [] = Unit {0}
EachClear (t ∷ ts) = (t.0 ≡ false) × (passes ts ≡ true)

cond_passes : (b : Bool) (kind : FaultKind) (o : Option FaultKind) → is_none (cond b (Some kind) o) ≡ true
    → (b ≡ false) × (is_none o ≡ true)
cond_passes true kind o h = absurd cc
cond_passes false kind o h = (refl, h)

pub each_clear : (ts : Tests) → passes ts ≡ true → EachClear ts
each_clear [] h = tt
each_clear (t ∷ ts) h = cond_passes t.0 t.1 (first_fault ts) h

-- ---- words without a $

pub constant_plain : (s : Scope) (w : Word) → passes (constant_tests s w) ≡ true → has_dollar w ≡ false
constant_plain s w h = (each_clear (constant_tests s w) h).0

pub variable_plain : (s : Scope) (w : Word) → passes (variable_tests s w) ≡ true → has_dollar w ≡ false
variable_plain s w h = (each_clear (variable_tests s w) h).0

pub type_plain : (s : Scope) (w : Word) → passes (type_tests s w) ≡ true → has_dollar w ≡ false
type_plain s w h = (each_clear (type_tests s w) h).0

pub float_plain : (s : Scope) (w : Word) → passes (float_tests s w) ≡ true → has_dollar w ≡ false
float_plain s w h = (each_clear (float_tests s w) h).0

pub distinct_plain : (s : Scope) (vs : List Word) (w : Word) → passes (distinct_tests s vs w) ≡ true → has_dollar w ≡ false
distinct_plain s vs w h = (each_clear (distinct_tests s vs w) h).0

pub symbol_plain : (s : Scope) (e : List Word) (w : Word) → passes (symbol_tests s e w) ≡ true → has_dollar w ≡ false
symbol_plain s [] w h = type_plain s w h
symbol_plain s (c ∷ e) w h = (each_clear (symbol_tests s (c ∷ e) w) h).0

-- ---- labels in proofs

-- a label in a proof was declared, whatever other tests follow
named_labelled : (s : Scope) (w : Word) (more : Tests) → passes (named_tests s w ++ more) ≡ true → is_in s.labels w ≡ true
named_labelled s w more h =
    let declared = (each_clear (named_tests s w ++ more) h).1 in
    not-false (is_in s.labels w) (each_clear ((not (is_in s.labels w), UnknownLabel) ∷ (not (is_named s w), NotActive) ∷ more) declared).0

-- and it names an active hypothesis or an earlier assertion
named_named : (s : Scope) (w : Word) (more : Tests) → passes (named_tests s w ++ more) ≡ true → is_named s w ≡ true
named_named s w more h =
    let named = (not (is_named s w), NotActive) ∷ more in
    let labelled = (not (is_in s.labels w), UnknownLabel) ∷ named in
    let h1 : passes labelled ≡ true = (each_clear (named_tests s w ++ more) h).1 in
    let h2 : passes named ≡ true = (each_clear labelled h1).1 in
    not-false (is_named s w) (each_clear named h2).0

pub cited_labelled : (s : Scope) (e : List Word) (w : Word) → passes (cited_tests s e w) ≡ true → is_in s.labels w ≡ true
cited_labelled s e w h =
    named_labelled s w ((list_any (λ x. bytes_eq w (label_of x)) (mandatory s.hypotheses e), BadToken) ∷ []) h

pub cited_named : (s : Scope) (e : List Word) (w : Word) → passes (cited_tests s e w) ≡ true → is_named s w ≡ true
cited_named s e w h = named_named s w ((list_any (λ x. bytes_eq w (label_of x)) (mandatory s.hypotheses e), BadToken) ∷ []) h

pub cited_plain : (s : Scope) (e : List Word) (w : Word) → passes (cited_tests s e w) ≡ true → has_dollar w ≡ false
cited_plain s e w h = (each_clear (cited_tests s e w) h).0

-- a step is ? or a label that was declared
-- of a step that is not ?
abbrev known_tests : Scope → List Word → Word → Tests
known_tests s front w = named_tests s w ++ (not (labels_go_on s.assertions s.hypotheses (front ++ w ∷ [])), BadToken) ∷ []

step_known : (s : Scope) (front : List Word) (w : Word) → passes (step_tests s front w) ≡ true → is_unknown w ≡ false
    → passes (known_tests s front w) ≡ true
step_known s front w h n = sym (ap (λ b. passes (cond b [] (known_tests s front w))) n) ∙ h

pub step_labelled : (s : Scope) (front : List Word) (w : Word) → passes (step_tests s front w) ≡ true → is_unknown w ≡ false
    → is_in s.labels w ≡ true
step_labelled s front w h n =
    named_labelled s w ((not (labels_go_on s.assertions s.hypotheses (front ++ w ∷ [])), BadToken) ∷ []) (step_known s front w h n)

pub step_named : (s : Scope) (front : List Word) (w : Word) → passes (step_tests s front w) ≡ true → is_unknown w ≡ false
    → is_named s w ≡ true
step_named s front w h n =
    named_named s w ((not (labels_go_on s.assertions s.hypotheses (front ++ w ∷ [])), BadToken) ∷ []) (step_known s front w h n)

pub step_plain : (s : Scope) (front : List Word) (w : Word) → passes (step_tests s front w) ≡ true → has_dollar w ≡ false
step_plain s front w h = elim (cases_Bool (is_unknown w)) [
  | inl y ↦ ap has_dollar (same_word w (codes "?") y)
  | inr n ↦ (each_clear (known_tests s front w) (step_known s front w h n)).0
]

-- ---- letters

no_dollar_letter : (b : ℕ) → is_letter b ≡ true → eqb b 36 ≡ false
no_dollar_letter b h = elim (cases_Bool (eqb b 36)) [
  | inl y ↦ absurd
      (let e : is_letter 36 ≡ true = subst (λ c. is_letter c ≡ true) (eqb-true b 36 y) h in
      let f : is_letter 36 ≡ false = refl in
      cc)
  | inr n ↦ n
]

letters_plain : (w : Word) → list_all is_letter w ≡ true → has_dollar w ≡ false
letters_plain [] h = refl
letters_plain (b ∷ bs) h =
    let both = and_parts (is_letter b) (list_all is_letter bs) h in
    ap (λ c. c || has_dollar bs) (no_dollar_letter b both.0) ∙ letters_plain bs both.1

pub letter_plain : (s : Scope) (e labels ls : List Word) (w : Word) → passes (letter_tests s e labels ls w) ≡ true → has_dollar w ≡ false
letter_plain s e labels ls w h =
    letters_plain w (not-false (list_all is_letter w) (each_clear (letter_tests s e labels ls w) h).0)
