-- Of the code's inside, apart from the rules: items at places of a text.
use Rattle.std.specs.Prelude.{◌≡◌, ◌<◌, ◌≤◌, ◌+◌, ℕ, Bool, false, List, [], ◌∷◌, ◌++◌, length, drop, slice_range, Option, Some, None}
use Rattle.std.specs.Prelude.{codes, take}
use Rattle.std.specs.List.{list_any}
use Rattle.std.specs.Str.{bytes_eq}
use Rattle.mmtext.specs.Words.{Word}
use Rattle.mmtext.specs.Text.{Token, tokens_from}
use Rattle.items.specs.declared.reading.Kind.{Kind}
use Rattle.items.specs.declared.reading.Kind.TheVariants.{Comment, Opening, Closing, Assertion, Other}
use Rattle.items.specs.declared.reading.Item.{Item as Found}
use Rattle.items.specs.Items.{Piece, Item, words, pieces_of, outside, is_open_behind, ends_statement, asserts, label_of}
use Rattle.items.specs.Items.{IsComment, IsStatement}
use Rattle.items.specs.Rewriting.{IsUpToProof}

-- the tokens from a place of a text on
abbrev pub tokens_at : List ℕ → ℕ → List Token
tokens_at text at = tokens_from at (drop at text)

abbrev pub end_of : Token → ℕ
end_of t = t.place + length t.text

-- a token is the first from a place on
pub record IsFirst (text : List ℕ) (at : ℕ) (t : Token) : Type 0 where
  pub next : tokens_at text at ≡ t ∷ tokens_at text (end_of t)
  pub later : at < end_of t
  pub within : end_of t ≤ length text

abbrev pub piece_at : List ℕ → ℕ → Token → Piece
piece_at text at t = record { space = slice_range text at t.place; word = t.text }

-- the tokens of an item stand in a text from a place up to another
abbrev pub Stands : List ℕ → ℕ → Item → ℕ → Type 0
Stands text at [] end = at ≡ end
Stands text at (p ∷ ps) end = (t : Token) × IsFirst text at t × (p ≡ piece_at text at t) × Stands text (end_of t) ps end

-- what is left of a comment behind its $(
pub record IsCommentTo (text : List ℕ) (from end : ℕ) : Type 0 where
  pub left : Item
  pub stands : Stands text from left end
  pub body : List Word
  pub whole : words left ≡ body ++ codes "$)" ∷ []
  pub inside : list_any (λ w. bytes_eq w (codes "$)")) body ≡ false

-- the first of some words is $a or $p
abbrev pub first_asserts : List Word → Bool
first_asserts [] = false
first_asserts (w ∷ ws) = asserts w

-- what is left of a statement behind its first word
pub record IsStatementTo (text : List ℕ) (from end : ℕ) (is_assertion : Bool) : Type 0 where
  pub left : Item
  pub stands : Stands text from left end
  pub front : List Word
  pub whole : words left ≡ front ++ codes "$." ∷ []
  pub closed : is_open_behind false front ≡ false
  pub inside : list_any ends_statement (outside false front) ≡ false
  pub asserts : first_asserts (outside false front) ≡ is_assertion

-- an item is of a kind
abbrev pub IsOfKind : Kind → Item → Type 0
IsOfKind Comment x = IsComment x
IsOfKind Opening x = words x ≡ codes "${" ∷ []
IsOfKind Closing x = words x ≡ codes "$}" ∷ []
IsOfKind (Assertion label) x = IsStatement x × (label_of x ≡ label.now ∷ []) × (bytes_eq label.now (codes "$=") ≡ false)
IsOfKind Other x = IsStatement x × (label_of x ≡ [])

-- an item stands at a place
pub record IsItemAt (text : List ℕ) (from : ℕ) (i : Found) : Type 0 where
  pub item : Item
  pub stands : Stands text from item i.end
  pub kind : IsOfKind i.kind item

-- items stand one behind the other from a place on, up to the last token of a text
abbrev pub AreFound : List ℕ → ℕ → List Found → List Item → Type 0
AreFound text at [] [] = tokens_at text at ≡ []
AreFound text at (f ∷ fs) (x ∷ xs) =
    Stands text at x f.end × IsOfKind f.kind x × (at < f.end) × (f.end ≤ length text) × AreFound text f.end fs xs
AreFound text at _ _ = ⊥

-- a text is these items, and white space at its end
abbrev pub AreItems : List ℕ → List Found → Type 0
AreItems text fs = (items : List Item) × AreFound text 0 fs items

-- so many of these items stand up to a place, and the others behind it
pub record IsBehind (text : List ℕ) (at : ℕ) (fs : List Found) (xs : List Item) (count end : ℕ) : Type 0 where
  pub stands : Stands text at (pieces_of (take count xs)) end
  pub left : AreFound text end (drop count fs) (drop count xs)
  pub within : end ≤ length text

-- words of a statement were passed over, of which the last stands outside of comments, and none of those there passes a test
pub record IsPassed (test : Word → Bool) (text : List ℕ) (from at : ℕ) : Type 0 where
  pub left : Item
  pub stands : Stands text from left at
  pub closed : is_open_behind false (words left) ≡ false
  pub inside : list_any test (outside false (words left)) ≡ false

-- whether the first of some words is $a or $p, if there is one
abbrev pub IsAssertingIf : List Word → Option Bool → Type 0
IsAssertingIf ws None = ws ≡ []
IsAssertingIf [] (Some b) = ⊥
IsAssertingIf (w ∷ ws) (Some b) = asserts w ≡ b

-- an item up to its first $= outside of comments
pub record IsFrontTo (text : List ℕ) (from end : ℕ) : Type 0 where
  pub front : Item
  pub stands : Stands text from front end
  pub is_front : IsUpToProof front
