-- Scopes: what is active at a statement, and what is active behind it (Metamath book, sections 4.1.3
-- and 4.2).
use Rattle.std.specs.Prelude.{Bool, true, false, ◌&&◌, ◌||◌, List, [], ◌∷◌, ◌++◌, map, filter, Option, Some, None}
use Rattle.std.specs.List.{list_any}
use Rattle.std.specs.Str.{bytes_eq}
use Rattle.std.specs.Prelude.{codes}
use Rattle.mmtext.specs.Words.{Word}
use Rattle.source.specs.Statements.{Proof, Statement, constants, variables, float, hypothesis, distinct, asserted}
use Rattle.source.specs.Statements.{proved, block, Statements, none, some}

-- ---- what is declared

-- a $f with its label, type and variable, or a $e with its label and symbols
pub data Hypothesis : Type 0 where
  typing : Word → Word → Word → Hypothesis
  premise : Word → List Word → Hypothesis

abbrev pub label_of : Hypothesis → Word
label_of (typing label c v) = label
label_of (premise label ws) = label

-- two variables that a $d keeps apart
abbrev pub Pair : Type 0
Pair = Word × Word

-- an assertion with what its scope gives it
pub record Assertion : Type 0 where
  pub label : Word
  -- the mandatory hypotheses, in order of appearance
  pub hypotheses : List Hypothesis
  -- all active pairs, those of dummy variables too
  pub pairs : List Pair
  pub statement : List Word
  -- none of a $a
  pub proof : Option Proof
  -- the active hypotheses, mandatory or not, in order of appearance: those that its proof may name
  pub active : List Hypothesis

-- what stands at a statement
pub record Scope : Type 0 where
  -- no block is open
  pub outermost : Bool
  -- what is active
  pub constants : List Word
  pub variables : List Word
  pub hypotheses : List Hypothesis
  pub pairs : List Pair
  -- each symbol and each label so far, and each assertion, also of closed blocks
  pub symbols : List Word
  pub labels : List Word
  pub assertions : List Assertion

-- before any statement
abbrev pub nothing : Scope
nothing = record {
  outermost = true;
  constants = [];
  variables = [];
  hypotheses = [];
  pairs = [];
  symbols = [];
  labels = [];
  assertions = [];
}

-- ---- words

-- a word is one of these
abbrev pub is_in : List Word → Word → Bool
is_in ws w = list_any (bytes_eq w) ws

-- ---- variables

-- the hypothesis is the $f of a variable
abbrev pub is_float_of : Word → Hypothesis → Bool
is_float_of w (typing label c v) = bytes_eq w v
is_float_of w (premise label ws) = false

-- a variable has an active $f
abbrev pub has_float : Scope → Word → Bool
has_float s w = list_any (is_float_of w) s.hypotheses

-- ---- frames (section 4.2.7)

-- a variable is mandatory where it stands in the statement or in an active $e
abbrev pub stands_in : Word → Hypothesis → Bool
stands_in w (typing label c v) = false
stands_in w (premise label ws) = is_in ws w

abbrev pub is_mandatory_variable : List Hypothesis → List Word → Word → Bool
is_mandatory_variable active statement w = is_in statement w || list_any (stands_in w) active

-- a $f of a mandatory variable, and each $e
abbrev pub is_mandatory : List Hypothesis → List Word → Hypothesis → Bool
is_mandatory active statement (typing label c v) = is_mandatory_variable active statement v
is_mandatory active statement (premise label ws) = true

-- the mandatory hypotheses, in order of appearance
abbrev pub mandatory : List Hypothesis → List Word → List Hypothesis
mandatory active statement = filter (is_mandatory active statement) active

-- the mandatory pairs: the active ones of two mandatory variables
abbrev pub mandatory_pairs : Assertion → List Pair
mandatory_pairs a =
    filter (λ p. is_mandatory_variable a.active a.statement p.0 && is_mandatory_variable a.active a.statement p.1) a.pairs

-- ---- proofs

-- an active hypothesis or an earlier assertion, also of a closed block (section 4.2.8)
abbrev pub is_named : Scope → Word → Bool
is_named s w = list_any (λ h. bytes_eq w (label_of h)) s.hypotheses || list_any (λ a. bytes_eq w a.label) s.assertions

-- ? is a step that isn't there (section 4.2.8)
abbrev pub is_unknown : Word → Bool
is_unknown w = bytes_eq w (codes "?")

-- ---- statements

-- the pairs of a $d: each two of its variables
abbrev pub pairs_of : List Word → List Pair
pairs_of [] = []
pairs_of (v ∷ vs) = map (λ w. (v, w)) vs ++ pairs_of vs

-- one more hypothesis
abbrev pub with_hypothesis : Scope → Hypothesis → Scope
with_hypothesis s h = record s { hypotheses = s.hypotheses ++ h ∷ []; labels = s.labels ++ label_of h ∷ [] }

-- one more assertion
abbrev pub with_assertion : Scope → Word → List Word → Option Proof → Scope
with_assertion s label ws proof = record s {
  labels = s.labels ++ label ∷ [];
  assertions = s.assertions ++ record {
    label = label;
    hypotheses = mandatory s.hypotheses ws;
    pairs = s.pairs;
    statement = ws;
    proof = proof;
    active = s.hypotheses;
  } ∷ [];
}

-- in a block all stays active
abbrev pub enter : Scope → Scope
enter s = record s { outermost = false }

-- behind a block what is active is what was before it, and constants, symbols, labels and assertions stay
abbrev pub leave : Scope → Scope → Scope
leave before s = record s {
  outermost = before.outermost;
  variables = before.variables;
  hypotheses = before.hypotheses;
  pairs = before.pairs;
}

abbrev mutual
  -- what is active behind a statement
  pub behind : Scope → Statement → Scope
  behind s (constants ws) = record s { constants = s.constants ++ ws; symbols = s.symbols ++ ws }
  behind s (variables ws) = record s { variables = s.variables ++ ws; symbols = s.symbols ++ ws }
  behind s (float label c v) = with_hypothesis s (typing label c v)
  behind s (hypothesis label ws) = with_hypothesis s (premise label ws)
  behind s (distinct vs) = record s { pairs = s.pairs ++ pairs_of vs }
  behind s (asserted label ws) = with_assertion s label ws None
  behind s (proved label ws proof) = with_assertion s label ws (Some proof)
  behind s (block ss) = leave s (behind_all (enter s) ss)

  -- what is active behind statements
  pub behind_all : Scope → Statements → Scope
  behind_all s none = s
  behind_all s (some x xs) = behind_all (behind s x) xs

-- ---- blocks that are open

-- what stands at a place, and what stood before each open block, the innermost first
pub record Stand : Type 0 where
  pub scope : Scope
  pub around : List Scope

-- before any statement
abbrev pub outset : Stand
outset = record { scope = nothing; around = [] }

-- behind a statement
abbrev pub declared : Stand → Statement → Stand
declared s x = record s { scope = behind s.scope x }

-- behind ${
abbrev pub opened : Stand → Stand
opened s = record { scope = enter s.scope; around = s.scope ∷ s.around }

-- behind $}, if a block is open
abbrev pub closed_in : Scope → List Scope → Option Stand
closed_in s [] = None
closed_in s (before ∷ around) = Some (record { scope = leave before s; around = around })

abbrev pub closed : Stand → Option Stand
closed s = closed_in s.scope s.around
