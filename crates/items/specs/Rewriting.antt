-- The text of a source with changed labels and other proofs: what each of its items reads then.
use Rattle.std.specs.Prelude.{◌≡◌, ℕ, false, List, [], ◌∷◌, ◌++◌, Option, Some, None, codes, find}
use Rattle.std.specs.List.{list_any, flat_map, AllZip}
use Rattle.std.specs.Str.{bytes_eq}
use Rattle.mmtext.specs.Words.{Word}
use Rattle.giving.specs.Staying.{Change}
use Rattle.items.specs.Items.{Piece, Item, bytes_of, words, said, label_of, is_open_behind, Spells}
use Rattle.items.specs.Renaming.{renamed}

-- an item up to the $= of a theorem (section 4.2.8)
pub record IsUpToProof (front : Item) : Type 0 where
  pub says : List Word
  pub whole : said front ≡ says ++ codes "$=" ∷ []
  pub first : list_any (λ w. bytes_eq w (codes "$=")) says ≡ false
  pub closed : is_open_behind false (words front) ≡ false

-- a theorem with changed labels, and with this text for what stands between $= and $.
pub record HasProofText (cs : List Change) (text : List ℕ) (x : Item) (now : List ℕ) : Type 0 where
  pub front : Item
  pub proof : Item
  pub last : Piece
  pub was : x ≡ front ++ (proof ++ last ∷ [])
  pub front_is : IsUpToProof front
  pub last_is : last.word ≡ codes "$."
  pub reads : now ≡ bytes_of (renamed cs front) ++ (text ++ codes "$.")

-- the text for one of some labels
abbrev pub text_for : List Change → List Word → Option Change
text_for proofs [] = None
text_for proofs (w ∷ ws) = find (λ c. bytes_eq w c.0) proofs

-- an item has another proof, if there is a text for its label, or else changed labels alone
abbrev pub Reads : List Change → Option Change → Item → List ℕ → Type 0
Reads cs None x now = now ≡ bytes_of (renamed cs x)
Reads cs (Some c) x now = HasProofText cs c.1 x now

abbrev pub ReadsThen : List Change → List Change → Item → List ℕ → Type 0
ReadsThen cs proofs x now = Reads cs (text_for proofs (label_of x)) x now

-- a text is a source in which each item reads so, and the white space at its end is the same
pub record IsRewritten (cs proofs : List Change) (source out : List ℕ) : Type 0 where
  pub items : List Item
  pub rest : List ℕ
  pub spells : Spells items rest source
  pub parts : List (List ℕ)
  pub each : AllZip (ReadsThen cs proofs) items parts
  pub text : out ≡ flat_map (λ p. p) parts ++ rest
