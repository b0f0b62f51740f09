-- Words in lines of at most 79 columns: each stands on the line where it has room, and else it begins the next one.
use Rattle.std.specs.Prelude.{◌≡◌, ◌+◌, ◌==◌, ◌&&◌, ℕ, suc, nat_le, Bool, true, List, [], ◌∷◌, ◌++◌, length, codes, if◌then◌else◌}
use Rattle.mmtext.specs.Words.{Word}
use Rattle.items.specs.Items.{words}
use Rattle.items.specs.Layout.{IsLaidOut}

-- behind a column, counted from 0, a space and so many bytes have room
abbrev pub has_room : ℕ → ℕ → Bool
has_room at many = nat_le (at + suc many) 79

-- the white space in front of so many bytes
abbrev pub space_before : List ℕ → ℕ → ℕ → List ℕ
space_before indentation at many = if has_room at many then codes " " else 10 ∷ indentation

-- the column behind them
abbrev pub column_then : List ℕ → ℕ → ℕ → ℕ
column_then indentation at many = if has_room at many then at + suc many else length indentation + many

-- words behind a column, and the column behind them
abbrev pub words_laid : List ℕ → ℕ → List Word → List ℕ
words_laid i at [] = []
words_laid i at (w ∷ ws) = space_before i at (length w) ++ (w ++ words_laid i (column_then i at (length w)) ws)

abbrev pub columns_then : List ℕ → ℕ → List Word → ℕ
columns_then i at [] = at
columns_then i at (w ∷ ws) = columns_then i (column_then i at (length w)) ws

-- the first begins a line, and behind the last is white space for `$.`
abbrev pub laid_out : List ℕ → List Word → List ℕ
laid_out i ws = words_laid i 79 ws ++ space_before i (columns_then i 79 ws) 2

-- letters behind a column are cut where lines end: each piece but the last ends in column 79
abbrev pub are_cut : List ℕ → ℕ → List Word → Bool
are_cut i at [] = true
are_cut i at (w ∷ []) = true
are_cut i at (w ∷ v ∷ ws) = (column_then i at (length w) == 79) && are_cut i 79 (v ∷ ws)

-- the labels of a compressed proof (appendix B)
abbrev pub parenthesized : List Word → List Word
parenthesized labels = codes "(" ∷ (labels ++ codes ")" ∷ [])

-- the text of a proof stands in such lines
pub record IsInLines (indentation : List ℕ) (compressed : Bool) (text : List ℕ) : Type 0 where
  pub laid : IsLaidOut indentation compressed text
  pub lines : text ≡ laid_out indentation (words laid.proof)
