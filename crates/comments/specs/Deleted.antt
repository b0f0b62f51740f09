-- Which comments of a source go with assertions that were deleted.
use Rattle.std.specs.Prelude.{◌≡◌, ◌≢◌, ◌⊎◌, ℕ, zero, suc, Bool, false, List, [], ◌∷◌, ◌++◌, Option, Some, None, All, IsTrue}
use Rattle.std.specs.Prelude.{if◌then◌else◌, ◌||◌, codes}
use Rattle.std.specs.Str.{bytes_eq}
use Rattle.mmtext.specs.Words.{Word}
use Rattle.mmtext.specs.Text.{Token, tokens}
use Rattle.source.specs.Scopes.{is_in}
use Rattle.comments.specs.Outside.{outside}
use Rattle.comments.specs.Comments.{Comment}

-- $a or $p
abbrev pub asserts : Word → Bool
asserts w = bytes_eq w (codes "$a") || bytes_eq w (codes "$p")

-- the comment stands right in front of the statement of an assertion that was deleted: of its label, its $a or $p, and other comments
-- between these
pub record IsInFront (gone : List Word) (c : Comment) : Type 0 where
  pub label : Token
  pub rest : List Token
  pub mark : Token
  pub after : List Token
  pub stands : c.behind ≡ label ∷ rest
  pub next : outside false rest ≡ mark ∷ after
  pub is_mark : IsTrue (asserts mark.text)
  pub deleted : IsTrue (is_in gone label.text)

-- how many blocks are open behind tokens outside of comments; None where one was closed that wasn't opened among them
abbrev pub open_behind : ℕ → List Token → Option ℕ
open_behind n [] = Some n
open_behind zero (t ∷ ts) =
    if bytes_eq t.text (codes "${") then open_behind (suc zero) ts else (if bytes_eq t.text (codes "$}") then None else open_behind zero ts)
open_behind (suc n) (t ∷ ts) =
    if bytes_eq t.text (codes "${") then open_behind (suc (suc n)) ts else (
    if bytes_eq t.text (codes "$}") then open_behind n ts else open_behind (suc n) ts)

-- the labels of assertions among tokens outside of comments: those right before $a or $p
abbrev pub asserted : List Token → List Word
asserted [] = []
asserted (t ∷ []) = []
asserted (t ∷ m ∷ ts) = if asserts m.text then t.text ∷ asserted (m ∷ ts) else asserted (m ∷ ts)

-- a block of the source (section 4.2.8): each assertion in it was deleted, and one stood there
pub record IsDeletedBlock (gone : List Word) (source : List ℕ) (inside after : List Token) : Type 0 where
  pub before : List Token
  pub opening : Token
  pub closing : Token
  pub stands : tokens source ≡ before ++ opening ∷ inside ++ closing ∷ after
  pub no_comment : outside false (before ++ opening ∷ []) ≡ outside false before ++ opening ∷ []
  pub opens : opening.text ≡ codes "${"
  pub closes : closing.text ≡ codes "$}"
  pub whole : open_behind 0 (outside false inside) ≡ Some 0
  pub some : asserted (outside false inside) ≢ []
  pub each : All (λ label. IsTrue (is_in gone label)) (asserted (outside false inside))

-- the comment stands in such a block
pub record IsInDeletedBlock (gone : List Word) (source : List ℕ) (c : Comment) : Type 0 where
  pub front : List Token
  pub rest : List Token
  pub after : List Token
  pub block : IsDeletedBlock gone source (front ++ rest) after
  pub stands : c.behind ≡ rest ++ block.closing ∷ after

-- the comment goes with an assertion that was deleted
abbrev pub IsOfDeleted : List Word → List ℕ → Comment → Type 0
IsOfDeleted gone source c = IsInFront gone c ⊎ IsInDeletedBlock gone source c
