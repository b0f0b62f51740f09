-- Comments that are put in front of items.
use Rattle.std.specs.Prelude.{◌==◌, ℕ, Bool, List, [], ◌∷◌, ◌++◌, Option, Some, None, if◌then◌else◌}
use Rattle.std.specs.List.{list_any, after_last}
use Rattle.items.specs.Items.{Item}

abbrev pub is_line_feed : ℕ → Bool
is_line_feed b = b == 10

-- a line feed, and what stands behind the last one of some white space, if it has one
abbrev pub line_begin : List ℕ → List ℕ
line_begin space = 10 ∷ (if list_any is_line_feed space then after_last is_line_feed space else [])

-- a comment stands behind the white space in front of an item, which begins a line of its own then, indented as before
abbrev pub space_with : Option (List ℕ) → List ℕ → List ℕ
space_with None space = space
space_with (Some comment) space = space ++ (comment ++ line_begin space)

abbrev pub with_comment : Option (List ℕ) → Item → Item
with_comment comment [] = []
with_comment comment (p ∷ ps) = record p { space = space_with comment p.space } ∷ ps
