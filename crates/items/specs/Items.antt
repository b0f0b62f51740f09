-- A source as its items, in order: comments, marks of blocks, and statements, each with its bytes (Metamath book, sections 4.1.1, 4.1.2,
-- 4.2).
use Rattle.std.specs.Prelude.{◌≡◌, ◌⊎◌, ℕ, Bool, true, false, List, [], ◌∷◌, ◌++◌, map, All, if◌then◌else◌, codes, take, ◌||◌}
use Rattle.std.specs.List.{flat_map, list_any}
use mathlib.Core.Bool.{not}
use Rattle.std.specs.Str.{bytes_eq}
use Rattle.mmtext.specs.Words.{Word}
use Rattle.mmtext.specs.Text.{tokens}
use Rattle.mmtext.specs.Comments.{words_of}

-- ---- pieces

-- a token, with the white space in front of it (section 4.1.1)
pub record Piece : Type 0 where
  pub space : List ℕ
  pub word : Word

-- an item is its tokens
abbrev pub Item : Type 0
Item = List Piece

abbrev pub bytes_of : Item → List ℕ
bytes_of ps = flat_map (λ p. p.space ++ p.word) ps

abbrev pub words : Item → List Word
words ps = map (λ p. p.word) ps

abbrev pub pieces_of : List Item → Item
pieces_of xs = flat_map (λ x. x) xs

-- ---- comments: from $( to the next $) (section 4.1.2)

-- a comment is open behind words, where one was open before them or wasn't
abbrev pub is_open_behind : Bool → List Word → Bool
is_open_behind was [] = was
is_open_behind true (w ∷ ws) = is_open_behind (not (bytes_eq w (codes "$)"))) ws
is_open_behind false (w ∷ ws) = is_open_behind (bytes_eq w (codes "$(")) ws

-- the words outside of comments
abbrev pub outside : Bool → List Word → List Word
outside is_open [] = []
outside true (w ∷ ws) = outside (not (bytes_eq w (codes "$)"))) ws
outside false (w ∷ ws) = if bytes_eq w (codes "$(") then outside true ws else w ∷ outside false ws

abbrev pub said : Item → List Word
said x = outside false (words x)

-- ---- items

-- $( to $)
pub record IsComment (x : Item) : Type 0 where
  pub body : List Word
  pub whole : words x ≡ codes "$(" ∷ (body ++ codes "$)" ∷ [])
  pub inside : list_any (λ w. bytes_eq w (codes "$)")) body ≡ false

-- ${ or $} (section 4.2.8)
abbrev pub IsMark : Item → Type 0
IsMark x = (words x ≡ codes "${" ∷ []) ⊎ (words x ≡ codes "$}" ∷ [])

-- a word that stands in no statement but at its end
abbrev pub ends_statement : Word → Bool
ends_statement w = list_any (bytes_eq w) (codes "$." ∷ codes "${" ∷ codes "$}" ∷ [])

-- it begins outside of comments and ends at the first $. outside of them; comments in it belong to it (section 4.2)
pub record IsStatement (x : Item) : Type 0 where
  pub front : List Word
  pub whole : words x ≡ front ++ codes "$." ∷ []
  pub begins : list_any (λ w. bytes_eq w (codes "$(")) (take 1 front) ≡ false
  pub closed : is_open_behind false front ≡ false
  pub inside : list_any ends_statement (outside false front) ≡ false

abbrev pub IsItem : Item → Type 0
IsItem x = IsComment x ⊎ (IsMark x ⊎ IsStatement x)

-- a text is these items, one behind the other, and white space at its end: no other token stands in it
pub record Spells (items : List Item) (rest text : List ℕ) : Type 0 where
  pub bytes : text ≡ bytes_of (pieces_of items) ++ rest
  pub tokens_are : words_of (tokens text) ≡ words (pieces_of items)
  pub each : All IsItem items

-- ---- labels of assertions

-- $a or $p
abbrev pub asserts : Word → Bool
asserts w = bytes_eq w (codes "$a") || bytes_eq w (codes "$p")

-- the label stands in front of it (section 4.2.8)
abbrev pub label_among : List Word → List Word
label_among (label ∷ mark ∷ ws) = if asserts mark then label ∷ [] else []
label_among _ = []

abbrev pub label_of : Item → List Word
label_of x = label_among (said x)
