-- Of the code's inside, apart from the rules: what is looked up, and what a look-up finds.
use Rattle.std.specs.Prelude.{◌≡◌, ◌≢◌, ◌<◌, ◌↔◌, ℕ, List, Option, None, Some, Contains, length, slice_index_or}
use Rattle.std.specs.declared.cmp.Ordering.{Ordering}
use Rattle.std.specs.Ordering.{nat_cmp, ordering_then}
use Rattle.std.specs.List.Sorted.{IsSorted}
use Rattle.mmsyntax.specs.declared.statement.Symbol.TheVariants.{Var}
use Rattle.derivation.specs.Derivation.{Expression}

-- by the first place, then by the second
abbrev pub compared : ℕ × ℕ → ℕ × ℕ → Ordering
compared p q = ordering_then (nat_cmp p.0 q.0) (nat_cmp p.1 q.1)

-- no pair comes before the one before it
abbrev pub ArePairsSorted : List (ℕ × ℕ) → Type 0
ArePairsSorted ps = IsSorted compared ps

-- a place of the pair, or that it isn't there
abbrev pub IsPlaceOfPair : List (ℕ × ℕ) → ℕ × ℕ → Option ℕ → Type 0
IsPlaceOfPair ps p None = ¬ Contains ps p
IsPlaceOfPair ps p (Some i) = (i < length ps) × (slice_index_or ps i p ≡ p)

-- a variable differs from another, and is one of the pairs with it where it is the lower
abbrev pub PassesAbove : List (ℕ × ℕ) → ℕ → ℕ → Type 0
PassesAbove ps u v = (u ≢ v) × (u < v → Contains ps (u, v))

-- the numbers are the variables of an expression
abbrev pub AreVariablesOf : List ℕ → Expression → Type 0
AreVariablesOf us e = (u : ℕ) → Contains us u ↔ Contains e (Var u)
