-- Of the code's inside, apart from the rules: pairs that are found in either order.
use Rattle.std.specs.Prelude.{◌≡◌, ℕ, Bool, List, ◌&&◌, ◌||◌, ◌==◌, nat_lt, if◌then◌else◌}
use Rattle.std.specs.List.{list_any}
use Rattle.std.specs.HashSet.{HashSet, contains_by}
use Rattle.wordkeys.specs.declared.keys.WordKeys.{WordKeys}

-- two numbers are those of a pair, in either order
abbrev pub is_pair_of_numbers : ℕ → ℕ → ℕ × ℕ → Bool
is_pair_of_numbers u v p = ((p.0 == u) && (p.1 == v)) || ((p.1 == u) && (p.0 == v))

-- the lower number first
abbrev pub ordered : ℕ → ℕ → ℕ × ℕ
ordered u v = if nat_lt v u then (v, u) else (u, v)

-- whether a set has two numbers, the lower first
abbrev pub finds : HashSet (ℕ × ℕ) WordKeys → ℕ → ℕ → Bool
finds set u v = contains_by (λ k. ((ordered u v).0 == k.0) && ((ordered u v).1 == k.1)) set

-- a set has the pairs of a list, and no other
abbrev pub AreFound : List (ℕ × ℕ) → HashSet (ℕ × ℕ) WordKeys → Type 0
AreFound pairs set = (u v : ℕ) → finds set u v ≡ list_any (is_pair_of_numbers u v) pairs
