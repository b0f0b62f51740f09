-- Of the code's inside, apart from the rules: the rule of the table in which numbers lie, and what each step tells.
use Rattle.std.specs.Prelude.{◌≡◌, ◌<◌, ◌≤◌, ◌+◌, ◌-◌, ◌^◌, ℕ, suc, List, [], ◌∷◌, ◌++◌, Bool, if◌then◌else◌, nat_lt, All, IsPermutation, length, flat_map, sum_by, ◌⊎◌}
use Rattle.atomic_table.specs.Seated.{TableId}
use Rattle.atomic_table.specs.Table.{State, Me, Step}
use Rattle.claims.specs.declared.rule.Sizes.{Sizes}
use Rattle.claims.specs.Claims.{Counting, Claimant, up_to}

-- a seat: how many claimants it stands for, up to which count there are numbers, those claimed by it, and how many of its claimants were
-- told that there are no more
pub record View : Type 0 where
  pub parts : ℕ
  pub count : ℕ
  pub claimed : List ℕ
  pub ended : ℕ

-- a seat that was given up
abbrev pub nobody : View
nobody = record { parts = 0; count = 0; claimed = []; ended = 0 }

-- the first seat stands for all claimants
abbrev pub first_view : ℕ → ℕ → View
first_view count claimants = record { parts = claimants; count = count; claimed = []; ended = 0 }

abbrev pub dealer : ℕ → ℕ → Me (Unit {0}) View
dealer count claimants = (first_view count claimants, [])

-- a claimant is dealt of it
abbrev pub dealt_left : View → View
dealt_left v = record v { parts = v.parts - 1 }

abbrev pub newcomer : View → View
newcomer v = record { parts = 1; count = v.count; claimed = []; ended = 0 }

-- what two seats have together
abbrev pub joined : View → View → View
joined v w = record { parts = v.parts + w.parts; count = v.count; claimed = v.claimed ++ w.claimed; ended = v.ended + w.ended }

-- all numbers that the seats claimed, how many claimants they stand for, and how many of these were told that there are no more
abbrev pub all_claimed : List View → List ℕ
all_claimed views = flat_map (λ v. v.claimed) views

abbrev pub all_parts : List View → ℕ
all_parts views = sum_by (λ v. v.parts) views

abbrev pub all_ended : List View → ℕ
all_ended views = sum_by (λ v. v.ended) views

-- who was told that there are no more is one of its claimants, and a seat for none has nothing
pub record IsFair (v : View) : Type 0 where
  pub ended : v.ended ≤ v.parts
  pub idle : v.parts ≡ 0 → v.claimed ≡ []

-- the seats stand for all claimants. They claimed the numbers from 0 up to some number within the count, each once, and up to the count
-- where one of them was told that there are no more. The word counts the claims and those that were told so
pub record Ruled (count claimants : ℕ) (s : State (Unit {0}) View) : Type 0 where
  pub parts : all_parts s.views ≡ claimants
  pub fair : All IsFair s.views
  pub each : IsPermutation (up_to (length (all_claimed s.views))) (all_claimed s.views)
  pub within : length (all_claimed s.views) ≤ count
  pub last : (all_ended s.views ≡ 0) ⊎ (length (all_claimed s.views) ≡ count)
  pub word : s.words ≡ (length (all_claimed s.views) + all_ended s.views) ∷ []
  pub small : count + claimants < 2 ^ 64

-- a claim: the number found is behind all that the seat claimed before, and is claimed by it where there is such a number
abbrev pub after_claim : View → ℕ → View
after_claim v n = if nat_lt n v.count then record v { claimed = v.claimed ++ n ∷ [] } else record v { ended = suc v.ended }

pub record Claimed (old : Me (Unit {0}) View) (n : ℕ) (new : Me (Unit {0}) View) : Type 0 where
  pub is : new ≡ (after_claim old.0 n, old.1)
  pub later : All (λ m. m < n) old.0.claimed

abbrev pub claimed : Step (Unit {0}) → Me (Unit {0}) View → ℕ → Me (Unit {0}) View → Type 0
claimed _ old n new = Claimed old n new

-- the numbers in a table
abbrev pub home_of : TableId → Sizes → Counting
home_of table sizes = record { table = table; count = sizes.count; claimants = sizes.claimants }

-- the claimant at a seat
abbrev pub shown : TableId → View → Bool → Claimant
shown table v ended = record { table = table; count = v.count; claimed = v.claimed; ended = ended }

-- the seat stands for one claimant, and holds no slot
pub record SitsWith (me : Me (Unit {0}) View) (ended : Bool) : Type 0 where
  pub one : me.0.parts ≡ 1
  pub ended_is : me.0.ended ≡ (if ended then 1 else 0)
  pub free : me.1 ≡ []

-- the table has one word and no slot, and was told the count
pub record AreLaid (count : ℕ) (table : TableId) (sizes : Sizes) : Type 0 where
  pub words : table.words ≡ 1
  pub slots : table.slots ≡ 0
  pub count_is : sizes.count ≡ count
  pub small : sizes.count + sizes.claimants < 2 ^ 64

-- a seat with what these claimants have, the last of them first
abbrev pub with_claimant : Me (Unit {0}) View → Claimant → Me (Unit {0}) View
with_claimant me c = (joined me.0 (record { parts = 1; count = c.count; claimed = c.claimed; ended = (if c.ended then 1 else 0) }), me.1)

abbrev pub gathered : Me (Unit {0}) View → List Claimant → Me (Unit {0}) View
gathered me [] = me
gathered me (c ∷ cs) = with_claimant (gathered me cs) c
