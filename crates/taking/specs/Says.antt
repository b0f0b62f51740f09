-- What an assertion says: an assertion of the library says the same as one of the source, by a map of names.
use Rattle.std.specs.Prelude.{◌≡◌, ℕ, List, [], ◌∷◌, filter_map, All, Option, Some, None, slice_get}
use Rattle.std.specs.Option.{option_map}
use Rattle.mmtext.specs.Words.{Word}
use Rattle.mmsyntax.specs.declared.statement.Symbol.{Symbol}
use Rattle.mmsyntax.specs.declared.statement.Symbol.TheVariants.{Const, Var}
use Rattle.mmsyntax.specs.declared.statement.Float.{Float}
use Rattle.mmsyntax.specs.declared.statement.Assertion.{Assertion as Unit'}
use Rattle.mmsyntax.specs.Tables.{Tables}
use Rattle.mmsyntax.specs.Blocks.{in_order, with_pair}
use Rattle.source.specs.Scopes.{Hypothesis, typing, premise, Pair, Assertion}
use Rattle.taking.specs.Names.{Map, label_in, constant_in, float_in, variable_in}

-- ---- expressions

-- each item has a value
abbrev pub both : {A : Type 0} → Option A → Option (List A) → Option (List A)
both (Some x) (Some xs) = Some (x ∷ xs)
both _ _ = None

abbrev pub each : {A B : Type 0} → (A → Option B) → List A → Option (List B)
each f [] = Some []
each f (x ∷ xs) = both (f x) (each f xs)

-- a constant, or else the variable of an active $f
abbrev pub symbol_at : Option ℕ → Option ℕ → Option Symbol
symbol_at (Some i) v = Some (Const i)
symbol_at None v = option_map (λ j. Var j) v

abbrev pub symbol_in : Map → List Hypothesis → Word → Option Symbol
symbol_in m active w = symbol_at (constant_in m w) (variable_in m active w)

abbrev pub expression_in : Map → List Hypothesis → List Word → Option (List Symbol)
expression_in m active ws = each (symbol_in m active) ws

-- the symbols of each $e
abbrev pub premises : List Hypothesis → List (List Word)
premises [] = []
premises (typing label c v ∷ hs) = premises hs
premises (premise label ws ∷ hs) = ws ∷ premises hs

-- ---- pairs

-- a pair of two variables that have an active $f; no other pair restricts anything
abbrev pub pair_at : Option ℕ → Option ℕ → Option (ℕ × ℕ)
pair_at (Some i) (Some j) = Some (in_order i j)
pair_at _ _ = None

abbrev pub pair_in : Map → List Hypothesis → Pair → Option (ℕ × ℕ)
pair_in m active p = pair_at (variable_in m active p.0) (variable_in m active p.1)

-- all pairs, ascending, each once
abbrev pub ascending : List (ℕ × ℕ) → List (ℕ × ℕ)
ascending [] = []
ascending (p ∷ ps) = with_pair p (ascending ps)

abbrev pub pairs_in : Map → List Hypothesis → List Pair → List (ℕ × ℕ)
pairs_in m active ps = ascending (filter_map (pair_in m active) ps)

-- ---- assertions

-- a $f is taken: the library has one at its place, of its type, and it is the $f of its variable
abbrev pub IsFloatTaken : Map → Tables → Hypothesis → Type 0
IsFloatTaken m t (typing label c v) =
    (j : ℕ) × (f : Float) × (float_in m label ≡ Some j) × (slice_get t.floats j ≡ Some f) × (constant_in m c ≡ Some f.type_code)
    × (slice_get m.variables j ≡ Some v)
IsFloatTaken m t (premise label ws) = Unit {0}

abbrev pub AreFloatsTaken : Map → Tables → Assertion → Type 0
AreFloatsTaken m t x = All (IsFloatTaken m t) x.active

-- an assertion of the library says what one of the source says: its hypotheses, its statement and its pairs, over all active $f, those of
-- dummy variables too
pub record SaysSame (m : Map) (t : Tables) (x : Assertion) (a : Unit') : Type 0 where
  pub label : label_in m x.label ≡ Some a.label
  pub floats : AreFloatsTaken m t x
  pub hyps : each (expression_in m x.active) (premises x.active) ≡ Some a.hyps
  pub statement : expression_in m x.active x.statement ≡ Some a.statement
  pub pairs : pairs_in m x.active x.pairs ≡ a.pairs
