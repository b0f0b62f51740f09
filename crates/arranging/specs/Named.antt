-- By which label what leaves its block stands behind what describes it.
use Rattle.std.specs.Prelude.{◌≡◌, ◌⊎◌, ℕ, List, [], ◌∷◌, Option, Some, None, slice_get}
use Rattle.mmtext.specs.Words.{Word}
use Rattle.giving.specs.Staying.{Change, changed}
use Rattle.items.specs.Items.{Item, label_of, Spells}
use Rattle.arranging.specs.declared.coming.Coming.{Coming}

-- the first item of a text is the assertion with a label
pub record BeginsWith (text : List ℕ) (label : Word) : Type 0 where
  pub items : List Item
  pub rest : List ℕ
  pub spells : Spells items rest text
  pub first : Item
  pub stands : slice_get items 0 ≡ Some first
  pub labelled : label_of first ≡ label ∷ []

-- one of the source goes as it stood, or is written anew under the label that it has then
abbrev pub IsNamedFrom : List Change → Coming → Option Word → Type 0
IsNamedFrom cs c None = Unit {0}
IsNamedFrom cs c (Some label) = (c.back.now ≡ []) ⊎ BeginsWith c.back.now (changed cs label)
