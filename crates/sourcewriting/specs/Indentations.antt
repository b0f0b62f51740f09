-- What the lines of a proof begin with that is written anew.
use Rattle.std.specs.Prelude.{ℕ, Bool, ◌≤◌, ◌==◌, ◌&&◌, nat_le, List, Option, Some, None, length, IsTrue, codes, if◌then◌else◌}
use Rattle.std.specs.List.{list_all}

-- spaces that leave room for $.
pub record IsIndentation (i : List ℕ) : Type 0 where
  pub spaces : IsTrue (list_all (λ c. c == 32) i)
  pub short : length i ≤ 77

abbrev pub is_indentation : List ℕ → Bool
is_indentation i = list_all (λ c. c == 32) i && nat_le (length i) 77

-- six spaces in a block, and else four
abbrev pub usual_indentation : Bool → List ℕ
usual_indentation in_block = if in_block then codes "      " else codes "    "

-- those of the old proof, if there are such, and else the usual ones
abbrev pub indentation_like : Option (List ℕ) → Bool → List ℕ
indentation_like None in_block = usual_indentation in_block
indentation_like (Some i) in_block = if is_indentation i then i else usual_indentation in_block
