-- Of the code's inside, apart from the rules: marks that tell which numbers are in a list.
use Rattle.std.specs.Prelude.{◌≡◌, ℕ, ◌<◌, ◌≤◌, ◌==◌, Bool, false, List, length, map, slice_index_or}
use Rattle.std.specs.List.{list_any}
use Rattle.std.specs.HashSet.{HashSet, contains_by}
use Rattle.wordkeys.specs.declared.keys.WordKeys.{WordKeys}
use Rattle.mmtext.specs.Words.{Word}
use Rattle.sourceframes.specs.Names.{Lasts}

-- each number below their count is marked where it is one of these
abbrev pub AreMarked : List ℕ → List Bool → Type 0
AreMarked ns ms = (n : ℕ) → n < length ms → slice_index_or ms n false ≡ list_any (λ v. v == n) ns

-- whether a set has a number
abbrev pub has : HashSet ℕ WordKeys → ℕ → Bool
has set n = contains_by (λ k. n == k) set

-- of the numbers from a count on, a set has those that are of these
abbrev pub AreOthers : List ℕ → ℕ → HashSet ℕ WordKeys → Type 0
AreOthers ns count set = (n : ℕ) → count ≤ n → has set n ≡ list_any (λ v. v == n) ns

-- words have these numbers
abbrev pub HaveNumbers : List Word → List Word → List ℕ → Type 0
HaveNumbers known words ns = Lasts known (λ name. map name ns ≡ words)
