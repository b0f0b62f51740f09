-- Which texts are items, one behind the other, by their words outside of comments.
use Rattle.std.specs.Prelude.{◌≡◌, ℕ, Bool, true, false, ◌||◌, List, [], ◌∷◌, Some, IsTrue, if◌then◌else◌, codes}
use Rattle.std.specs.Str.{bytes_eq}
use Rattle.mmtext.specs.Words.{Word}
use Rattle.mmtext.specs.Comments.{words_of, without_comments}
use Rattle.items.specs.Reading.{tokens_at}

-- ${ or $} (section 4.2.8)
abbrev pub is_mark : Word → Bool
is_mark w = bytes_eq w (codes "${") || bytes_eq w (codes "$}")

-- no statement begins with $. or $=
abbrev pub begins_none : Word → Bool
begins_none w = bytes_eq w (codes "$.") || bytes_eq w (codes "$=")

-- words are marks of blocks, and statements up to a $. each (section 4.2); the argument before them says whether a statement is begun
abbrev pub divides : Bool → List Word → Bool
divides false [] = true
divides false (w ∷ ws) = if is_mark w then divides false ws else (if begins_none w then false else divides true ws)
divides true [] = false
divides true (w ∷ ws) = if bytes_eq w (codes "$.") then divides false ws else (if is_mark w then false else divides true ws)

-- the words outside of comments from a place of a text on, where a comment is open or not: each comment is closed (section 4.1.2)
abbrev pub AreOutside : Bool → List ℕ → ℕ → List Word → Type 0
AreOutside is_open text at ws = without_comments is_open (words_of (tokens_at text at)) ≡ Some ws

-- they are marks of blocks and statements, the first of which is begun or not
pub record IsDividedFrom (is_begun : Bool) (text : List ℕ) (at : ℕ) : Type 0 where
  pub outside : List Word
  pub outside_are : AreOutside false text at outside
  pub divided : IsTrue (divides is_begun outside)

-- a text is items, one behind the other
abbrev pub IsDivided : List ℕ → Type 0
IsDivided text = IsDividedFrom false text 0
