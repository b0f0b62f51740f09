-- Numbers from 0 up to a count, each of which is claimed once.
use Rattle.std.specs.Prelude.{◌≡◌, ◌<◌, ◌≤◌, ℕ, zero, suc, List, [], ◌∷◌, ◌++◌, Bool, true, false, All, IsPermutation, flat_map}
use Rattle.atomic_table.specs.Seated.{TableId}
use Rattle.ranges.specs.Ranges.{Has}

-- the table in which the numbers lie, up to which count there are numbers, and how many claimants there are
pub record Counting : Type 0 where
  pub table : TableId
  pub count : ℕ
  pub claimants : ℕ

-- a claimant: the table, up to which count there are numbers, those that it claimed, in order, and whether it was told that there are
-- no more
pub record Claimant : Type 0 where
  pub table : TableId
  pub count : ℕ
  pub claimed : List ℕ
  pub ended : Bool

-- the claimant is one of these numbers': of their table, and with their count
abbrev pub IsClaimantOf : Counting → Claimant → Type 0
IsClaimantOf home c = (c.table ≡ home.table) × (c.count ≡ home.count)

-- and has claimed none so far
abbrev pub IsNewOf : Counting → Claimant → Type 0
IsNewOf home c = c ≡ record { table = home.table; count = home.count; claimed = []; ended = false }

-- it claims the number n, which is behind all that it claimed before
pub record Claims (home : Counting) (n : ℕ) (old new : Claimant) : Type 0 where
  pub below : n < home.count
  pub later : All (λ m. m < n) old.claimed
  pub is : new ≡ record old { claimed = old.claimed ++ n ∷ [] }

-- it is told that all numbers are claimed
abbrev pub Ends : Claimant → Claimant → Type 0
Ends old new = new ≡ record old { ended = true }

-- the numbers from 0 up to n, in order
abbrev pub up_to : ℕ → List ℕ
up_to zero = []
up_to (suc n) = up_to n ++ n ∷ []

-- all that these claimants claimed
abbrev pub claims_of : List Claimant → List ℕ
claims_of claimants = flat_map (λ c. c.claimed) claimants

-- what they claimed are the numbers from 0 up to some number, each once; and up to the count where one of them was told that there are
-- no more
pub record AreClaimed (home : Counting) (claimants : List Claimant) : Type 0 where
  pub many : ℕ
  pub each : IsPermutation (up_to many) (claims_of claimants)
  pub within : many ≤ home.count
  pub all : (c : Claimant) → Has c claimants → c.ended ≡ true → many ≡ home.count
