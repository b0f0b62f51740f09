-- Words that pass their tests one behind the other: the symbols of $c and $v too, and words whose tests ask for none before them.
use Rattle.std.proofs.Common.{◌≡◌, ℕ, suc, true, false, List, [], ◌∷◌, ◌++◌, length, refl, sym, ap, ◌∙◌, append_assoc, append-nil, arith}
use Rattle.std.specs.Prelude.{◌&&◌, All, nat_le}
use Rattle.std.specs.List.{list_all}
use Rattle.std.proofs.lemmas.Bool.{and_parts, le-leb}
use Rattle.std.proofs.lemmas.List.Elements.{All-nil, All-cons}
use Rattle.mmtext.specs.Words.{Word, has_dollar}
use Rattle.walks.proofs.Walks.{IsOrdinary, plain_is_ordinary}
use Rattle.mmsyntax.specs.Rows.{Tests}
use Rattle.source.specs.Statements.{constants, variables}
use Rattle.source.specs.Scopes.{Scope, behind}
use Rattle.source.specs.Tests.{passes, all_pass, each_declared, a_constant, a_variable, constant_tests, variable_tests}

-- ---- the symbols of $c and $v: what stands at each is what the earlier ones declare

abbrev pub constants_at : Scope → List Word → Scope
constants_at s front = behind s (constants front)

abbrev pub variables_at : Scope → List Word → Scope
variables_at s front = behind s (variables front)

abbrev pub constant_tests_at : Scope → List Word → Word → Tests
constant_tests_at s front w = constant_tests (constants_at s front) w

abbrev pub variable_tests_at : Scope → List Word → Word → Tests
variable_tests_at s front w = variable_tests (variables_at s front) w

pub no_constants : (s : Scope) → constants_at s [] ≡ s
no_constants s =
    ap (λ x. record s { constants = x; symbols = s.symbols ++ [] }) (append-nil s.constants)
    ∙ ap (λ x. record s { symbols = x }) (append-nil s.symbols)

pub no_variables : (s : Scope) → variables_at s [] ≡ s
no_variables s =
    ap (λ x. record s { variables = x; symbols = s.symbols ++ [] }) (append-nil s.variables)
    ∙ ap (λ x. record s { symbols = x }) (append-nil s.symbols)

pub one_constant : (s : Scope) (front : List Word) (w : Word)
    → behind (constants_at s front) (a_constant w) ≡ constants_at s (front ++ w ∷ [])
one_constant s front w =
    ap (λ x. record s { constants = x; symbols = (s.symbols ++ front) ++ w ∷ [] }) (append_assoc s.constants front (w ∷ []))
    ∙ ap (λ x. record s { constants = s.constants ++ (front ++ w ∷ []); symbols = x }) (append_assoc s.symbols front (w ∷ []))

pub one_variable : (s : Scope) (front : List Word) (w : Word)
    → behind (variables_at s front) (a_variable w) ≡ variables_at s (front ++ w ∷ [])
one_variable s front w =
    ap (λ x. record s { variables = x; symbols = (s.symbols ++ front) ++ w ∷ [] }) (append_assoc s.variables front (w ∷ []))
    ∙ ap (λ x. record s { variables = s.variables ++ (front ++ w ∷ []); symbols = x }) (append_assoc s.symbols front (w ∷ []))

constants_behind : (s : Scope) (front ws : List Word)
    → each_declared a_constant constant_tests (constants_at s front) ws ≡ all_pass (constant_tests_at s) front ws
constants_behind s front [] = refl
constants_behind s front (w ∷ ws) =
    ap (λ b. passes (constant_tests_at s front w) && b)
    (ap (λ x. each_declared a_constant constant_tests x ws) (one_constant s front w) ∙ constants_behind s (front ++ w ∷ []) ws)

variables_behind : (s : Scope) (front ws : List Word)
    → each_declared a_variable variable_tests (variables_at s front) ws ≡ all_pass (variable_tests_at s) front ws
variables_behind s front [] = refl
variables_behind s front (w ∷ ws) =
    ap (λ b. passes (variable_tests_at s front w) && b)
    (ap (λ x. each_declared a_variable variable_tests x ws) (one_variable s front w) ∙ variables_behind s (front ++ w ∷ []) ws)

pub constants_pass : (s : Scope) (ws : List Word) → each_declared a_constant constant_tests s ws ≡ all_pass (constant_tests_at s) [] ws
constants_pass s ws = ap (λ x. each_declared a_constant constant_tests x ws) (sym (no_constants s)) ∙ constants_behind s [] ws

pub variables_pass : (s : Scope) (ws : List Word) → each_declared a_variable variable_tests s ws ≡ all_pass (variable_tests_at s) [] ws
variables_pass s ws = ap (λ x. each_declared a_variable variable_tests x ws) (sym (no_variables s)) ∙ variables_behind s [] ws

-- ---- words whose tests ask for none before them

pub each_alone : (tests : Word → Tests) (front ws : List Word)
    → list_all (λ w. passes (tests w)) ws ≡ all_pass (λ earlier w. tests w) front ws
each_alone tests front [] = refl
each_alone tests front (w ∷ ws) = ap (λ b. passes (tests w) && b) (each_alone tests (front ++ w ∷ []) ws)

-- ---- words behind a first one

pub behind_first : (tests : List Word → Word → Tests) (first : Word) (front ws : List Word)
    → all_pass (λ earlier w. tests (first ∷ earlier) w) front ws ≡ all_pass tests (first ∷ front) ws
behind_first tests first front [] = refl
behind_first tests first front (w ∷ ws) =
    ap (λ b. passes (tests (first ∷ front) w) && b) (behind_first tests first (front ++ w ∷ []) ws)

-- ---- what passing tests say of each word

pub all_passed : (tests : List Word → Word → Tests) (P : Word → Type 0)
    → ((front : List Word) (w : Word) → passes (tests front w) ≡ true → P w) → (front ws : List Word) → all_pass tests front ws ≡ true
    → All P ws
all_passed tests P says front [] h = All-nil P
all_passed tests P says front (w ∷ ws) h =
    let both = and_parts (passes (tests front w)) (all_pass tests (front ++ w ∷ []) ws) h in
    All-cons P w ws (says front w both.0) (all_passed tests P says (front ++ w ∷ []) ws both.1)

-- ---- words without a $

-- the tests let no word with a $ pass
abbrev pub Plain : (List Word → Word → Tests) → Type 0
Plain tests = (front : List Word) (w : Word) → passes (tests front w) ≡ true → has_dollar w ≡ false

pub all_ordinary : (tests : List Word → Word → Tests) → Plain tests → (front ws : List Word) → all_pass tests front ws ≡ true
    → All IsOrdinary ws
all_ordinary tests plain front ws h =
    all_passed tests IsOrdinary (λ earlier w p. plain_is_ordinary w (plain earlier w p)) front ws h

-- ---- how many words

pub one_at_least : (n : ℕ) → nat_le 1 (suc n) ≡ true
one_at_least n = le-leb 1 (suc n) (omega arith)

pub two_at_least : (n : ℕ) → nat_le 2 (suc (suc n)) ≡ true
two_at_least n = le-leb 2 (suc (suc n)) (omega arith)

pub one_stands : {A : Type 0} (xs : List A) (x : A) → nat_le 1 (length (xs ++ x ∷ [])) ≡ true
one_stands [] x = refl
one_stands (y ∷ xs) x = one_at_least (length (xs ++ x ∷ []))
