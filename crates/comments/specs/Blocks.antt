-- Of the code's inside, apart from the rules: deleted blocks.
use Rattle.std.specs.Prelude.{◌≡◌, ◌≢◌, ◌≤◌, ◌+◌, ◌⊎◌, ℕ, false, List, [], ◌∷◌, ◌++◌, length, Some, All, IsTrue, codes}
use Rattle.mmtext.specs.Words.{Word}
use Rattle.mmtext.specs.Text.{Token}
use Rattle.source.specs.Scopes.{is_in}
use Rattle.comments.specs.declared.inside.Inside.{Inside}
use Rattle.comments.specs.Deleted.{open_behind, asserted, IsDeletedBlock}
use Rattle.comments.specs.Outside.{outside, in_comment_behind}
use Rattle.comments.specs.Insides.{IsReadInside}

-- the inside of a block was read up to some tokens
pub record IsInside (gone : List Word) (ts left : List Token) (s : Inside) : Type 0 where
  pub inside : List Token
  pub stands : ts ≡ inside ++ left
  pub closed : in_comment_behind false inside ≡ false
  pub read : IsReadInside gone (outside false inside) s

-- from the inside of a block on, whose assertions were deleted: it ends at a place
pub record IsBlockEnd (gone : List Word) (ts : List Token) (end : ℕ) : Type 0 where
  pub inside : List Token
  pub closing : Token
  pub after : List Token
  pub stands : ts ≡ inside ++ closing ∷ after
  pub closes : closing.text ≡ codes "$}"
  pub whole : open_behind 0 (outside false inside) ≡ Some 0
  pub some : asserted (outside false inside) ≢ []
  pub each : All (λ label. IsTrue (is_in gone label)) (asserted (outside false inside))
  pub ends : end ≡ closing.place + length closing.text

-- tokens stand in a deleted block of a source, which ends at a place
pub record IsInBlock (gone : List Word) (source : List ℕ) (ts : List Token) (end : ℕ) : Type 0 where
  pub front : List Token
  pub rest : List Token
  pub after : List Token
  pub block : IsDeletedBlock gone source (front ++ rest) after
  pub stands : ts ≡ rest ++ block.closing ∷ after
  pub ends : end ≡ block.closing.place + length block.closing.text

-- up to a place, if it isn't reached
abbrev pub IsInBlockUntil : List Word → List ℕ → List Token → ℕ → ℕ → Type 0
IsInBlockUntil gone source ts at until = (until ≤ at) ⊎ IsInBlock gone source ts until
