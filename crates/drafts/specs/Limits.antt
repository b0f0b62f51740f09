-- The limits of the profile that the contents of a database pass.
use Rattle.std.specs.Prelude.{◌≡◌, ◌<◌, ℕ, Bool, false, nat_lt, List, ◌∷◌, length, map, IsTrue, slice_index_or}
use Rattle.std.specs.List.{list_any}
use Rattle.mmsyntax.specs.declared.statement.Symbol.{Symbol}
use Rattle.mmsyntax.specs.declared.statement.Assertion.{Assertion}
use Rattle.mmsyntax.specs.Tables.{Contents}
use Rattle.mmsyntax.specs.Layout.{word_at}
use Rattle.mmsyntax.specs.Preludes.{float_labels}
use Rattle.drafts.specs.declared.limits.Limit.{Limit}
use Rattle.drafts.specs.declared.limits.Limit.TheVariants.{ManyConstants, ManyVariables, ManyFloats, ManyAssertions}
use Rattle.drafts.specs.declared.limits.Limit.TheVariants.{LongConstant, LongVariable, LongFloat, LongLabel}
use Rattle.drafts.specs.declared.limits.Limit.TheVariants.{ManyHypotheses, ManySymbols, ManyPairs, ManySteps}
use Rattle.drafts.specs.declared.draft.Undeclared.{Undeclared}
use Rattle.drafts.specs.declared.draft.Undeclared.TheVariants.{Passes, Unlawful, NoMemory}
use Rattle.mmsyntax.specs.declared.limits.TheConstants.{MOST_ASSERTIONS, MOST_DECLARED, MOST_HYPOTHESES, MOST_NAME_BYTES, MOST_PAIRS, MOST_STEPS, MOST_SYMBOLS}

-- the statement and the $e of an assertion
abbrev pub expressions : Assertion → List (List Symbol)
expressions a = a.statement ∷ a.hyps

-- an expression has more than 65,535 symbols
abbrev pub is_long : List Symbol → Bool
is_long e = nat_lt MOST_SYMBOLS (length e)

-- what a measure says of the assertion at a place, and 0 past the end
abbrev pub measured : (Assertion → ℕ) → List Assertion → ℕ → ℕ
measured measure xs i = slice_index_or (map measure xs) i 0

-- a limit is passed: by a number, or at a place
abbrev pub IsPassed : Contents → Limit → Type 0
IsPassed c (ManyConstants n) = (length c.prelude.constants ≡ n) × (MOST_DECLARED < n)
IsPassed c (ManyVariables n) = (length c.prelude.variables ≡ n) × (MOST_DECLARED < n)
IsPassed c (ManyFloats n) = (length c.prelude.floats ≡ n) × (MOST_DECLARED < n)
IsPassed c (ManyAssertions n) = (length c.assertions ≡ n) × (MOST_ASSERTIONS < n)
IsPassed c (LongConstant i) = MOST_NAME_BYTES < length (word_at c.prelude.constants i)
IsPassed c (LongVariable i) = MOST_NAME_BYTES < length (word_at c.prelude.variables i)
IsPassed c (LongFloat i) = MOST_NAME_BYTES < length (word_at (float_labels c.prelude.floats) i)
IsPassed c (LongLabel i) = MOST_NAME_BYTES < measured (λ a. length a.label) c.assertions i
IsPassed c (ManyHypotheses i) = MOST_HYPOTHESES < measured (λ a. length a.hyps) c.assertions i
IsPassed c (ManySymbols i) = IsTrue (slice_index_or (map (λ a. list_any is_long (expressions a)) c.assertions) i false)
IsPassed c (ManyPairs i) = MOST_PAIRS < measured (λ a. length a.pairs) c.assertions i
IsPassed c (ManySteps i) = MOST_STEPS < measured (λ a. length a.proof) c.assertions i

-- no limit is passed
abbrev pub PassesNone : Contents → Type 0
PassesNone c = (limit : Limit) → IsPassed c limit → ⊥

-- what is told of why no text declares the contents: a limit that is passed; another rule only where none is
abbrev pub IsTold : Contents → Undeclared → Type 0
IsTold c (Passes limit) = IsPassed c limit
IsTold c Unlawful = PassesNone c
IsTold c NoMemory = Unit {0}
