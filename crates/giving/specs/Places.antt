-- Of the code's inside, apart from the rules: assertions at places.
use Rattle.std.specs.Prelude.{◌≡◌, ℕ, Bool, List, length, map, take, Option, Some, slice_get}
use Rattle.source.specs.Scopes.{Assertion}
use Rattle.giving.specs.Staying.{Change, Stays, others}

-- an assertion that is there stays as one that is there
abbrev pub StaysThere : List Change → Option Assertion → Option Assertion → Type 0
StaysThere cs (Some x) (Some y) = Stays cs x y
StaysThere cs _ _ = ⊥

-- the places of those in front of a place that flags don't choose
abbrev pub ArePlacesBefore : ℕ → List Bool → List ℕ → Type 0
ArePlacesBefore i flags ks =
    (xs : List Assertion) → length xs ≡ length flags
    → map (slice_get xs) ks ≡ map (λ x. Some x) (others (take i flags) (take i xs))

-- and of all of those
abbrev pub ArePlacesOfOthers : List Bool → List ℕ → Type 0
ArePlacesOfOthers flags ks = (xs : List Assertion) → length xs ≡ length flags → map (slice_get xs) ks ≡ map (λ x. Some x) (others flags xs)

-- an assertion that is there says the same as one that is there
abbrev pub SayTheSame : Option Assertion → Option Assertion → Type 0
SayTheSame (Some x) (Some y) = (y.statement ≡ x.statement) × (y.hypotheses ≡ x.hypotheses) × (y.pairs ≡ x.pairs)
SayTheSame _ _ = ⊥
