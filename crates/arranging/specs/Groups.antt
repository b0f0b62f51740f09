-- What an assertion looks like that is written anew (Metamath book, section 4.2).
use Rattle.std.specs.Prelude.{◌≡◌, ◌⊎◌, ℕ, Bool, true, false, List, [], ◌∷◌, ◌++◌, All, codes, ◌||◌}
use Rattle.std.specs.List.{list_any}
use Rattle.std.specs.Str.{bytes_eq}
use Rattle.mmtext.specs.Words.{Word}
use Rattle.items.specs.Items.{Item, words, pieces_of, label_of, Spells}
use Rattle.arranging.specs.declared.coming.Coming.{Coming}
use Rattle.arranging.specs.Lines.{AreInLines}

-- $d, or $e behind its label: these give an assertion its frame (sections 4.2.5, 4.2.6)
abbrev pub gives_frame : List Word → Bool
gives_frame (w ∷ v ∷ ws) = bytes_eq w (codes "$d") || bytes_eq v (codes "$e")
gives_frame _ = false

-- a block of its own, with what gives it its frame
pub record IsOwnBlock (opening closing : List Item) : Type 0 where
  pub first : Item
  pub frame : List Item
  pub whole : opening ≡ first ∷ frame
  pub opens : words first ≡ codes "${" ∷ []
  pub each : All (λ x. gives_frame (words x) ≡ true) frame
  pub last : Item
  pub end : closing ≡ last ∷ []
  pub closes : words last ≡ codes "$}" ∷ []

-- outermost, or in a block of its own: nothing else stands in its text, and no comment. An empty line is in front, and each item is laid
-- out in lines
pub record IsWritten (c : Coming) : Type 0 where
  pub lines : List ℕ
  pub begins : c.front.now ≡ 10 ∷ lines
  pub opening : List Item
  pub front : Spells opening [] lines
  pub assertion : Item
  pub closing : List Item
  pub back : Spells (assertion ∷ closing) [] c.back.now
  pub label : Word
  pub asserts : label_of assertion ≡ label ∷ []
  pub block : ((opening ≡ []) × (closing ≡ [])) ⊎ IsOwnBlock opening closing
  pub plain : list_any (λ w. bytes_eq w (codes "$(")) (words (pieces_of (opening ++ assertion ∷ closing))) ≡ false
  pub laid_out : AreInLines (opening ++ assertion ∷ closing)
