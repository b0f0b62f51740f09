-- Of the code's inside, apart from the rules: expressions that lie in one list of symbols, each from a place to another.
use Rattle.std.specs.Prelude.{ℕ, ◌≤◌, List, [], ◌∷◌, All, length, map, slice_range}
use Rattle.source.specs.Proofs.{Stack}

abbrev pub cut : List ℕ → List (ℕ × ℕ) → List (List ℕ)
cut symbols spans = map (λ s. slice_range symbols s.0 s.1) spans

-- each is a part of so many symbols
abbrev pub AreWithin : ℕ → List (ℕ × ℕ) → Type 0
AreWithin n spans = All (λ s. (s.0 ≤ s.1) × (s.1 ≤ n)) spans

-- what stands and what is marked, and how many symbols were written down for them
pub record Sheet : Type 0 where
  pub stack : Stack (List ℕ)
  pub written : ℕ

-- how many symbols the last of some expressions has, which stands first
abbrev pub last_length : List (List ℕ) → ℕ
last_length [] = 0
last_length (e ∷ es) = length e
