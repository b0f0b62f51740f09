-- How a proof that is written anew is laid out: lines of at most 79 columns.
use Rattle.std.specs.Prelude.{◌≡◌, ◌+◌, ◌||◌, ◌&&◌, ◌==◌, ℕ, suc, Bool, true, false, List, [], ◌∷◌, ◌++◌, length, filter_map, All, IsTrue}
use Rattle.std.specs.Prelude.{Option, Some, None, nat_le, if◌then◌else◌, codes}
use Rattle.std.specs.List.{list_all}
use Rattle.std.specs.Option.{option_map, unwrap_or, is_some}
use mathlib.Core.Bool.{not}
use Rattle.std.specs.Str.{bytes_eq}
use Rattle.mmtext.specs.Words.{Word}
use Rattle.mmtext.specs.Text.{is_printable}
use Rattle.items.specs.Items.{Piece, Item, bytes_of, words}

-- the spaces behind the line feed that white space begins with, if nothing else stands there
abbrev pub indent : List ℕ → Option (List ℕ)
indent [] = None
indent (b ∷ bs) = if (b == 10) && list_all (λ c. c == 32) bs then Some bs else None

abbrev pub begins_line : Piece → Bool
begins_line p = is_some (indent p.space)

-- the column behind a word, counted from 0, which begins a line or stands behind one space
abbrev pub column : ℕ → Piece → ℕ
column at p = length p.word + unwrap_or (option_map length (indent p.space)) (suc at)

-- behind words up to a column: each word begins a line or stands behind one space, and no line is longer than 79 columns, but for a label
-- that stands in a line alone. Letters, which stand behind the ) of a compressed proof, can be cut anywhere
abbrev pub is_laid_out : ℕ → Bool → Item → Bool
is_laid_out at letters [] = true
is_laid_out at letters (p ∷ ps) =
    (bytes_eq p.space (codes " ") || begins_line p)
    && (nat_le (column at p) 79 || (begins_line p && not letters))
    && is_laid_out (column at p) (letters || bytes_eq p.word (codes ")")) ps

-- the white space that each line begins with
abbrev pub indents : Item → List (List ℕ)
indents ps = filter_map (λ p. indent p.space) ps

-- printable characters, of which there is one at least (section 4.1.1)
abbrev pub is_word : Word → Bool
is_word w = not (length w == 0) && list_all is_printable w

-- the first word is (: the proof is compressed (appendix B)
abbrev pub is_compressed : List Word → Bool
is_compressed [] = false
is_compressed (w ∷ ws) = bytes_eq w (codes "(")

-- the text of a proof, with white space for the $. behind it: laid out from a new line on, each line with this indentation
pub record IsLaidOut (indentation : List ℕ) (compressed : Bool) (text : List ℕ) : Type 0 where
  pub proof : Item
  pub space : List ℕ
  pub bytes : text ≡ bytes_of proof ++ space
  pub spelled : IsTrue (list_all is_word (words proof))
  pub form : is_compressed (words proof) ≡ compressed
  pub layout : IsTrue (is_laid_out 79 false (proof ++ record { space = space; word = codes "$." } ∷ []))
  pub indented : All (λ i. i ≡ indentation) (indents (proof ++ record { space = space; word = codes "$." } ∷ []))
