-- Beside an assertion of a source a heading stands in the block around it.
use Rattle.std.specs.Prelude.{◌≡◌, ◌<◌, ◌≤◌, ℕ, suc, List, [], ◌∷◌, map, take, Some, slice_get}
use Rattle.mmtext.specs.Words.{Word}
use Rattle.leaving.specs.declared.part.Part.{Part}
use Rattle.leaving.specs.declared.part.Part.TheVariants.{Heading}
use Rattle.leaving.specs.Leaving.{open_behind}
use Rattle.items.specs.Items.{Item, label_of, Spells}
use Rattle.arranging.specs.declared.headed.Side.{Side}
use Rattle.arranging.specs.declared.headed.Side.TheVariants.{Behind, InFront}
use Rattle.arranging.specs.Parts.{part_of}

-- a block is open in front of an item (Metamath book, section 4.2.8)
abbrev pub IsOpenAt : List Part → ℕ → Type 0
IsOpenAt ps k = (depth : ℕ) × (open_behind 0 (take k ps) ≡ Some (suc depth))

-- a heading stands behind an item, and from the item up to it a block is open
pub record HasHeadingBehind (ps : List Part) (place : ℕ) : Type 0 where
  pub at : ℕ
  pub behind : place < at
  pub heads : slice_get ps at ≡ Some Heading
  pub inside : (k : ℕ) → place < k → k ≤ at → IsOpenAt ps k

-- a heading stands in front of an item, and from it up to the item a block is open
pub record HasHeadingInFront (ps : List Part) (place : ℕ) : Type 0 where
  pub at : ℕ
  pub in_front : at < place
  pub heads : slice_get ps at ≡ Some Heading
  pub inside : (k : ℕ) → at < k → k ≤ place → IsOpenAt ps k

abbrev pub HasHeading : Side → List Part → ℕ → Type 0
HasHeading Behind ps place = HasHeadingBehind ps place
HasHeading InFront ps place = HasHeadingInFront ps place

-- in a source it stands so on this side of the assertion with a label
pub record IsHeaded (source : List ℕ) (label : Word) (side : Side) : Type 0 where
  pub items : List Item
  pub rest : List ℕ
  pub spells : Spells items rest source
  pub place : ℕ
  pub assertion : Item
  pub stands : slice_get items place ≡ Some assertion
  pub labelled : label_of assertion ≡ label ∷ []
  pub heading : HasHeading side (map (part_of [] []) items) place
