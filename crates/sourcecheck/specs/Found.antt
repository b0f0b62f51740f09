-- Of the code's inside, apart from the rules: what is found by those who look at places beside one another, each of which passes or fails.
use Rattle.std.specs.Prelude.{ℕ, ◌<◌, Option, None, Some, List, [], ◌∷◌, nat_lt, if◌then◌else◌}

-- what is found among some places: nothing, or the first of them that fails, and how it fails
abbrev pub FoundAmong : {F : Type 0} → (ℕ → Type 0) → (ℕ → F → Type 0) → (ℕ → Type 0) → Option (ℕ × F) → Type 0
FoundAmong Passes Fails P None = (k : ℕ) → P k → Passes k
FoundAmong Passes Fails P (Some found) = P found.0 × Fails found.0 found.1 × ((j : ℕ) → j < found.0 → P j → Passes j)

-- the one with the lower place
abbrev pub earlier : {F : Type 0} → Option (ℕ × F) → Option (ℕ × F) → Option (ℕ × F)
earlier None other = other
earlier (Some found) None = Some found
earlier (Some found) (Some other) = if nat_lt other.0 found.0 then Some other else Some found

-- the one with the lowest place, of what was found so far and later
abbrev pub earliest : {F : Type 0} → Option (ℕ × F) → List (Option (ℕ × F)) → Option (ℕ × F)
earliest found [] = found
earliest found (other ∷ later) = earliest (earlier found other) later
