-- How a statement that is written anew is laid out: in lines of at most 79 columns.
use Rattle.std.specs.Prelude.{◌&&◌, ℕ, Bool, true, false, List, [], ◌∷◌, All, IsTrue, codes, if◌then◌else◌}
use Rattle.std.specs.Str.{bytes_eq}
use Rattle.items.specs.Items.{Item}
use Rattle.items.specs.Layout.{column, is_laid_out}

-- words of a statement, behind a column: each begins a line or stands behind one space, and no line is longer than 79 columns, but for a
-- label or a symbol that stands in a line alone. Behind $= stands a proof, of which letters can be cut anywhere
abbrev pub is_in_lines : ℕ → Item → Bool
is_in_lines at [] = true
is_in_lines at (p ∷ ps) =
    is_laid_out at false (p ∷ [])
    && (if bytes_eq p.word (codes "$=") then is_laid_out (column at p) false ps else is_in_lines (column at p) ps)

-- each item begins a line
abbrev pub AreInLines : List Item → Type 0
AreInLines xs = All (λ x. IsTrue (is_in_lines 79 x)) xs
