-- What can't stand in front of an assertion that keeps its place: it mentions a name that is declared behind that.
use Rattle.std.specs.Prelude.{◌≡◌, ◌<◌, ℕ, List, [], ◌∷◌, Some, IsTrue, slice_get}
use Rattle.mmtext.specs.Words.{Word}
use Rattle.source.specs.Scopes.{is_in}
use Rattle.items.specs.Items.{Item, said, label_of, Spells}
use Rattle.arranging.specs.declared.coming.Coming.{Coming}
use Rattle.arranging.specs.Sections.{declared, mentioned}

-- in a source an assertion with a label stands in front of a statement that declares a name, and what is put in mentions the name (sections
-- 4.2.1, 4.2.2, 4.2.4: what is declared is active from there on)
pub record IsHeldBehind (source : List ℕ) (c : Coming) (label name : Word) : Type 0 where
  pub items : List Item
  pub rest : List ℕ
  pub spells : Spells items rest source
  pub place : ℕ
  pub neighbour : Item
  pub stands : slice_get items place ≡ Some neighbour
  pub labelled : label_of neighbour ≡ label ∷ []
  pub behind : ℕ
  pub later : place < behind
  pub declaration : Item
  pub there : slice_get items behind ≡ Some declaration
  pub declares : IsTrue (is_in (declared (said declaration)) name)
  pub mentions : IsTrue (is_in (mentioned items c) name)
