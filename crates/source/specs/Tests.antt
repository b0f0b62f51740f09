-- The tests of the words of a statement, in order, with their faults; and which statements are lawful in a scope: those whose tests pass
-- (Metamath book, sections 4.1.3 and 4.2; compressed proofs: appendix B).
use Rattle.std.specs.Prelude.{ℕ, Bool, true, ◌&&◌, ◌||◌, ◌==◌, nat_le, List, [], ◌∷◌, ◌++◌, length, map, is_none, if◌then◌else◌}
use Rattle.std.specs.List.{list_any, list_all, flat_map}
use Rattle.std.specs.Str.{bytes_eq}
use mathlib.Core.Bool.{not}
use Rattle.mmtext.specs.declared.fault.FaultKind.TheVariants.{BadToken, UnknownSymbol, RepeatedLabel, NoTypeFor, UnknownLabel, NotActive}
use Rattle.mmtext.specs.Words.{Word, has_dollar, is_label}
use Rattle.mmsyntax.specs.Rows.{Tests, first_fault}
use Rattle.source.specs.Statements.{Proof, normal, compressed, Statement, constants, variables, float, hypothesis, distinct, asserted}
use Rattle.source.specs.Statements.{proved, block, Statements, none, some}
use Rattle.source.specs.Scopes.{Scope, label_of, is_in, has_float, mandatory, is_named, is_unknown, enter, behind}
use Rattle.source.specs.Proofs.{labels_go_on, letters_go_on, leaves_one}

-- ---- words

-- "Each label token must be unique, and no label token may match any math symbol token" (section 4.1.3); once its keyword has passed
abbrev pub label_tests : Scope → Word → Tests
label_tests s w = (is_in s.labels w || is_in s.symbols w, RepeatedLabel) ∷ []

-- a symbol in $c: a math symbol, and new. A constant is declared once, and a variable may be declared again, but not as a constant (section
-- 4.1.3)
abbrev pub constant_tests : Scope → Word → Tests
constant_tests s w = (has_dollar w, BadToken) ∷ (is_in s.labels w || is_in s.symbols w, RepeatedLabel) ∷ []

-- a symbol in $v: a variable may be declared again once it isn't active (section 4.1.3)
abbrev pub variable_tests : Scope → Word → Tests
variable_tests s w = (has_dollar w, BadToken) ∷ (is_in s.labels w || is_in s.constants w || is_in s.variables w, RepeatedLabel) ∷ []

-- an active constant
abbrev pub type_tests : Scope → Word → Tests
type_tests s w = (has_dollar w, BadToken) ∷ (not (is_in s.constants w), UnknownSymbol) ∷ []

-- an active variable
abbrev pub active_tests : Scope → Word → Tests
active_tests s w =
    (has_dollar w, BadToken)
    ∷ (not (is_in s.symbols w) || is_in s.constants w, UnknownSymbol)
    ∷ (not (is_in s.variables w), NotActive)
    ∷ []

-- the variable of a $f: it has no active $f yet (section 4.1.3)
abbrev pub float_tests : Scope → Word → Tests
float_tests s w = active_tests s w ++ (has_float s w, RepeatedLabel) ∷ []

-- a variable of a $d behind others, which differ (section 4.1.3)
abbrev pub distinct_tests : Scope → List Word → Word → Tests
distinct_tests s vs w = active_tests s w ++ (is_in vs w, BadToken) ∷ []

-- a symbol of a $e, $a or $p behind others: the first is a constant, and each variable has an active $f (section 4.1.3)
abbrev pub symbol_tests : Scope → List Word → Word → Tests
symbol_tests s [] w = type_tests s w
symbol_tests s (c ∷ e) w =
    (has_dollar w, BadToken)
    ∷ (not (is_in s.symbols w), UnknownSymbol)
    ∷ (not (is_in s.constants w || is_in s.variables w), NotActive)
    ∷ (not (is_in s.constants w || has_float s w), NoTypeFor)
    ∷ []

-- a label in a proof: of an active hypothesis or of an earlier assertion (section 4.2.8)
abbrev pub named_tests : Scope → Word → Tests
named_tests s w = (has_dollar w, BadToken) ∷ (not (is_in s.labels w), UnknownLabel) ∷ (not (is_named s w), NotActive) ∷ []

-- a step of a normal proof behind others: ?, which takes nothing, or a label, and then the entries that it takes are there (section 4.2.8)
abbrev pub step_tests : Scope → List Word → Word → Tests
step_tests s ws w =
    if is_unknown w then [] else named_tests s w ++ (not (labels_go_on s.assertions s.hypotheses (ws ++ w ∷ [])), BadToken) ∷ []

-- a label in parentheses: none of a mandatory hypothesis (appendix B)
abbrev pub cited_tests : Scope → List Word → Word → Tests
cited_tests s e w = named_tests s w ++ (list_any (λ h. bytes_eq w (label_of h)) (mandatory s.hypotheses e), BadToken) ∷ []

-- the labels that numbers count: those of the mandatory hypotheses, then those in parentheses (appendix B)
abbrev pub numbered_labels : Scope → List Word → List Word → List Word
numbered_labels s e labels = map label_of (mandatory s.hypotheses e) ++ labels

-- A to Z and ? (appendix B)
abbrev pub is_letter : ℕ → Bool
is_letter b = (nat_le 65 b && nat_le b 90) || (b == 63)

-- the letters of a word behind those of others: what their numbers say is there, and marks stand where they may (appendix B)
abbrev pub letter_tests : Scope → List Word → List Word → List Word → Word → Tests
letter_tests s e labels ls w =
    (not (list_all is_letter w), BadToken)
    ∷ (not (letters_go_on s.assertions s.hypotheses (numbered_labels s e labels) (flat_map (λ l. l) (ls ++ w ∷ []))), BadToken)
    ∷ []

-- ---- statements

-- no test fails
abbrev pub passes : Tests → Bool
passes ts = is_none (first_fault ts)

-- the tests of words pass, each behind the earlier ones
abbrev pub all_pass : (List Word → Word → Tests) → List Word → List Word → Bool
all_pass tests front [] = true
all_pass tests front (w ∷ ws) = passes (tests front w) && all_pass tests (front ++ w ∷ []) ws

-- a label that may be declared
abbrev pub is_new_label : Scope → Word → Bool
is_new_label s w = is_label w && passes (label_tests s w)

-- what stands in a $e, $a or $p
abbrev pub is_expression : Scope → List Word → Bool
is_expression s ws = nat_le 1 (length ws) && all_pass (symbol_tests s) [] ws

-- what stands in a proof: a step or a letter at least
abbrev pub has_lawful_words : Scope → List Word → Proof → Bool
has_lawful_words s e (normal steps) = nat_le 1 (length steps) && all_pass (step_tests s) [] steps
has_lawful_words s e (compressed labels letters) =
    list_all (λ w. passes (cited_tests s e w)) labels && nat_le 1 (length letters) && all_pass (letter_tests s e labels) [] letters

-- a proof denotes a tree
abbrev pub is_whole : Scope → List Word → Proof → Bool
is_whole s e proof = leaves_one s.assertions s.hypotheses (mandatory s.hypotheses e) proof

abbrev pub is_lawful_proof : Scope → List Word → Proof → Bool
is_lawful_proof s e proof = has_lawful_words s e proof && is_whole s e proof

-- symbols may be declared, each behind the earlier ones
abbrev pub each_declared : (Word → Statement) → (Scope → Word → Tests) → Scope → List Word → Bool
each_declared declares tests s [] = true
each_declared declares tests s (w ∷ ws) = passes (tests s w) && each_declared declares tests (behind s (declares w)) ws

-- one constant, and one variable
abbrev pub a_constant : Word → Statement
a_constant w = constants (w ∷ [])

abbrev pub a_variable : Word → Statement
a_variable w = variables (w ∷ [])

abbrev mutual
  -- a statement is lawful in a scope (section 4.1.3)
  pub is_lawful : Scope → Statement → Bool
  -- at least one symbol, and outermost alone
  is_lawful s (constants ws) = s.outermost && nat_le 1 (length ws) && each_declared a_constant constant_tests s ws
  -- at least one symbol
  is_lawful s (variables ws) = nat_le 1 (length ws) && each_declared a_variable variable_tests s ws
  is_lawful s (float label c v) = is_new_label s label && passes (type_tests s c) && passes (float_tests s v)
  is_lawful s (hypothesis label ws) = is_new_label s label && is_expression s ws
  -- two variables at least
  is_lawful s (distinct vs) = nat_le 2 (length vs) && all_pass (distinct_tests s) [] vs
  is_lawful s (asserted label ws) = is_new_label s label && is_expression s ws
  is_lawful s (proved label ws proof) = is_new_label s label && is_expression s ws && is_lawful_proof s ws proof
  is_lawful s (block ss) = are_lawful (enter s) ss

  -- statements are lawful, each behind the earlier ones
  pub are_lawful : Scope → Statements → Bool
  are_lawful s none = true
  are_lawful s (some x xs) = is_lawful s x && are_lawful (behind s x) xs
