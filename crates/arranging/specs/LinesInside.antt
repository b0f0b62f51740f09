-- Of the code's inside, apart from the rules: words of a statement that is laid out in lines, one by one.
use Rattle.std.specs.Prelude.{◌≡◌, ℕ, Bool, true, false, List, [], ◌∷◌, IsTrue, codes, if◌then◌else◌}
use Rattle.std.specs.Str.{bytes_eq}
use Rattle.mmtext.specs.Words.{Word}
use Rattle.items.specs.Items.{Piece, Item}
use Rattle.items.specs.Layout.{column, is_laid_out}
use Rattle.arranging.specs.declared.lines.Part.{Part}
use Rattle.arranging.specs.declared.lines.Part.TheVariants.{Statement, Proof, Letters}
use Rattle.arranging.specs.declared.lines.LinePlace.{LinePlace}
use Rattle.arranging.specs.Lines.{is_in_lines}

abbrev pub piece : List ℕ → Word → Piece
piece space word = record { space = space; word = word }

-- whether what stands behind a column begins with this part of a statement
abbrev pub part_in_lines : ℕ → Part → Item → Bool
part_in_lines at Statement ps = is_in_lines at ps
part_in_lines at Proof ps = is_laid_out at false ps
part_in_lines at Letters ps = is_laid_out at true ps

-- words from a place on are laid out
abbrev pub AreLaidFrom : LinePlace → Item → Type 0
AreLaidFrom p ps = IsTrue (part_in_lines p.column p.part ps)

-- one word more is laid out, and leads to a place
abbrev pub LaysWord : LinePlace → List ℕ → Word → LinePlace → Type 0
LaysWord old space word new = (ps : Item) → AreLaidFrom new ps → AreLaidFrom old (piece space word ∷ ps)

abbrev pub are_letters : Part → Bool
are_letters Letters = true
are_letters _ = false

-- the part behind a word
abbrev pub part_behind : Part → Word → Part
part_behind Statement w = if bytes_eq w (codes "$=") then Proof else Statement
part_behind Proof w = if bytes_eq w (codes ")") then Letters else Proof
part_behind Letters w = Letters

-- a word stands behind a column as it may, up to another
pub record IsPlaced (at : ℕ) (letters : Bool) (space : List ℕ) (word : Word) (behind : ℕ) : Type 0 where
  pub fits : IsTrue (is_laid_out at letters (piece space word ∷ []))
  pub ends : behind ≡ column at (piece space word)
