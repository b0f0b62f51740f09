-- Of the code's inside, apart from the rules: one list of variables.
use Rattle.std.specs.Prelude.{◌≡◌, ◌==◌, ◌&&◌, ℕ, Bool, true, List, [], ◌∷◌}
use mathlib.Core.Bool.{not}
use Rattle.std.specs.List.{list_all, list_any}
use Rattle.sourcewriting.specs.Groups.{has_pair}

-- of each two of them there is a pair
abbrev pub are_paired : List (ℕ × ℕ) → List ℕ → Bool
are_paired ps [] = true
are_paired ps (v ∷ vs) = list_all (has_pair ps v) vs && are_paired ps vs

-- they begin with these two
pub record IsGroupOf (ps : List (ℕ × ℕ)) (one other : ℕ) (group : List ℕ) : Type 0 where
  pub others : List ℕ
  pub begins : group ≡ one ∷ other ∷ others
  pub paired : are_paired ps group ≡ true

-- two variables that differ stand in a list
abbrev pub stand_in : List ℕ → ℕ → ℕ → Bool
stand_in vs x y = not (x == y) && (list_any (λ w. w == x) vs && list_any (λ w. w == y) vs)
