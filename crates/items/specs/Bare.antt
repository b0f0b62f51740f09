-- Assertions of a text that have no proof, though another one is to stand in it.
use Rattle.std.specs.Prelude.{◌≡◌, ◌≢◌, ℕ, false, Bool, List, All, None, codes}
use Rattle.std.specs.List.{list_any}
use Rattle.std.specs.Str.{bytes_eq}
use Rattle.giving.specs.Staying.{Change}
use Rattle.items.specs.Items.{Item, pieces_of, said, label_of, IsItem}
use Rattle.items.specs.Reading.{Stands}
use Rattle.items.specs.Rewriting.{text_for}

-- an item of a text, behind those in front of it
pub record IsItemOf (text : List ℕ) (x : Item) : Type 0 where
  pub before : List Item
  pub each : All IsItem before
  pub from : ℕ
  pub stands_before : Stands text 0 (pieces_of before) from
  pub end : ℕ
  pub stands : Stands text from x end
  pub is : IsItem x

-- a $= stands in it, outside of comments (section 4.2.8)
abbrev pub has_proof : Item → Bool
has_proof x = list_any (λ w. bytes_eq w (codes "$=")) (said x)

-- there is a text for its proof, and it has none
pub record IsBare (proofs : List Change) (x : Item) : Type 0 where
  pub wanted : text_for proofs (label_of x) ≢ None
  pub bare : has_proof x ≡ false

-- an item of a text is so
abbrev pub HasBare : List Change → List ℕ → Type 0
HasBare proofs text = (x : Item) × IsItemOf text x × IsBare proofs x
