-- Of the code's inside, apart from the rules: what the texts in front of an assertion and behind it read as, where it is written anew.
use Rattle.std.specs.Prelude.{◌≡◌, ℕ, Bool, true, false, List, [], ◌∷◌, All, IsTrue, codes, length}
use Rattle.std.specs.List.{list_any}
use Rattle.std.specs.Str.{bytes_eq}
use Rattle.mmtext.specs.Words.{Word}
use Rattle.mmtext.specs.Comments.{words_of}
use Rattle.items.specs.Items.{Item, words, pieces_of, label_of, IsItem}
use Rattle.items.specs.Reading.{tokens_at, Stands}
use Rattle.arranging.specs.Lines.{is_in_lines, AreInLines}
use Rattle.arranging.specs.Groups.{gives_frame}

-- items stand in a text from a place up to another
pub record AreBetween (text : List ℕ) (from : ℕ) (xs : List Item) (end : ℕ) : Type 0 where
  pub stand : Stands text from (pieces_of xs) end
  pub each : All IsItem xs

-- a comment begins among words
abbrev pub opens_comment : List Word → Bool
opens_comment ws = list_any (λ w. bytes_eq w (codes "$(")) ws

abbrev pub IsPlain : List ℕ → Type 0
IsPlain text = opens_comment (words_of (tokens_at text 0)) ≡ false

abbrev pub AllGive : List Item → Type 0
AllGive xs = All (λ x. gives_frame (words x) ≡ true) xs

-- from a place on, a text has just items that give an assertion its frame
pub record IsFrame (text : List ℕ) (from : ℕ) : Type 0 where
  pub frame : List Item
  pub are : AreBetween text from frame (length text)
  pub each : AllGive frame
  pub laid_out : AreInLines frame

-- a block is opened by the first of these, and the others give the frame; or there are none
abbrev pub IsOpened : Bool → List Item → Type 0
IsOpened false xs = xs ≡ []
IsOpened true xs = (first : Item) × (frame : List Item) × (xs ≡ first ∷ frame) × (words first ≡ codes "${" ∷ []) × AllGive frame

-- what stands in front, where a block is opened or isn't
pub record IsFront (text : List ℕ) (opens : Bool) : Type 0 where
  pub opening : List Item
  pub are : AreBetween text 0 opening (length text)
  pub opened : IsOpened opens opening
  pub laid_out : AreInLines opening

-- a block is closed by the last bytes of a text, from a place on
abbrev pub IsEnd : List ℕ → ℕ → Type 0
IsEnd text from = (last : Item) × Stands text from last (length text) × (words last ≡ codes "$}" ∷ []) × IsTrue (is_in_lines 79 last)

-- a block is closed by the only one of these; or there are none
abbrev pub IsClosed : Bool → List Item → Type 0
IsClosed false xs = xs ≡ []
IsClosed true xs = (last : Item) × (xs ≡ last ∷ []) × (words last ≡ codes "$}" ∷ [])

-- the assertion and what stands behind it, where a block is closed or isn't
pub record IsBack (text : List ℕ) (closes : Bool) : Type 0 where
  pub assertion : Item
  pub closing : List Item
  pub are : AreBetween text 0 (assertion ∷ closing) (length text)
  pub label : Word
  pub asserts : label_of assertion ≡ label ∷ []
  pub closed : IsClosed closes closing
  pub laid_out : AreInLines (assertion ∷ closing)
