-- The $d of an assertion that is put into a source: lists of variables, each of which restricts each pair of its variables.
use Rattle.std.specs.Prelude.{◌≡◌, ◌==◌, ◌&&◌, ◌||◌, ℕ, Bool, true, List, [], ◌∷◌, ◌++◌, map, All}
use Rattle.std.specs.List.{flat_map, list_any}
use Rattle.std.specs.declared.alloc.Global.{Global}
use Rattle.std.specs.Prelude.{Vec}

-- a pair is of these variables, either way round
abbrev pub is_pair : ℕ → ℕ → ℕ × ℕ → Bool
is_pair x y p = ((p.0 == x) && (p.1 == y)) || ((p.0 == y) && (p.1 == x))

-- there is a pair of them
abbrev pub has_pair : List (ℕ × ℕ) → ℕ → ℕ → Bool
has_pair ps x y = list_any (is_pair x y) ps

-- the pairs of a list of variables
abbrev pub pairs_of : List ℕ → List (ℕ × ℕ)
pairs_of [] = []
pairs_of (v ∷ vs) = map (λ w. (v, w)) vs ++ pairs_of vs

-- the pairs of some lists
abbrev pub restricted : List (List ℕ) → List (ℕ × ℕ)
restricted groups = flat_map pairs_of groups

-- a variable is one of a pair
abbrev pub IsPaired : List (ℕ × ℕ) → ℕ → Type 0
IsPaired ps x = (y : ℕ) × (has_pair ps x y ≡ true)

-- two variables make a pair in one of the lists just where they are one of these pairs, and the lists have no other variables
pub record AreGrouped (pairs : List (ℕ × ℕ)) (groups : List (List ℕ)) : Type 0 where
  pub alike : (x y : ℕ) → has_pair (restricted groups) x y ≡ has_pair pairs x y
  pub paired : All (All (IsPaired pairs)) groups

-- lists of the code
abbrev pub seen_groups : List (Vec ℕ Global) → List (List ℕ)
seen_groups gs = map (λ g. g.items) gs
