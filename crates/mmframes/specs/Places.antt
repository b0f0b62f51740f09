-- Of the code's inside, apart from the rules: where the substitute of a variable stands.
use Rattle.std.specs.Prelude.{◌≡◌, ◌≢◌, ◌<◌, ℕ, List, [], ◌∷◌, Option, None, Some, length, slice_index, slice_index_or}
use Rattle.mmsyntax.specs.declared.statement.Symbol.{Symbol}
use Rattle.mmsyntax.specs.declared.statement.Symbol.TheVariants.{Var}
use Rattle.mmframes.specs.Substitution.{replacement}

-- the place of the first of the numbers that is n, or that none is
abbrev pub IsFirstPlace : List ℕ → ℕ → Option ℕ → Type 0
IsFirstPlace ns n None = (k : ℕ) → k < length ns → slice_index ns k ≢ n
IsFirstPlace ns n (Some i) = (i < length ns) × (slice_index ns i ≡ n) × ((k : ℕ) → k < i → slice_index ns k ≢ n)

-- the place of what stands for a variable, or that it stands for itself
abbrev pub IsPlaceOf : List (ℕ × List Symbol) → ℕ → Option ℕ → Type 0
IsPlaceOf s v None = replacement s v ≡ Var v ∷ []
IsPlaceOf s v (Some i) = (i < length s) × ((d : ℕ × List Symbol) → replacement s v ≡ (slice_index_or s i d).1)
