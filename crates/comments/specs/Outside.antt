-- Of the code's inside, apart from the rules: tokens in and outside of comments.
use Rattle.std.specs.Prelude.{◌≡◌, ◌≤◌, ◌+◌, ℕ, Bool, true, false, List, [], ◌∷◌, ◌++◌, length, drop, All, if◌then◌else◌, codes}
use mathlib.Core.Bool.{not}
use Rattle.std.specs.Str.{bytes_eq}
use Rattle.mmtext.specs.Text.{Token, tokens_from}

-- the tokens from a place of a text on
abbrev pub tokens_at : List ℕ → ℕ → List Token
tokens_at text at = tokens_from at (drop at text)

-- the tokens outside of comments, of which one may be open before them: $( opens one, and $) closes it (section 4.1.2)
abbrev pub outside : Bool → List Token → List Token
outside in_comment [] = []
outside true (t ∷ ts) = outside (not (bytes_eq t.text (codes "$)"))) ts
outside false (t ∷ ts) = if bytes_eq t.text (codes "$(") then outside true ts else t ∷ outside false ts

-- whether a comment is open behind tokens, where one was open before them or wasn't
abbrev pub in_comment_behind : Bool → List Token → Bool
in_comment_behind was [] = was
in_comment_behind true (t ∷ ts) = in_comment_behind (not (bytes_eq t.text (codes "$)"))) ts
in_comment_behind false (t ∷ ts) = in_comment_behind (bytes_eq t.text (codes "$(")) ts

-- tokens end up to a place
abbrev pub EndBy : ℕ → List Token → Type 0
EndBy at ts = All (λ t. t.place + length t.text ≤ at) ts

-- a token is the first outside of comments, and others stand behind it
pub record IsNext (ts left : List Token) (t : Token) : Type 0 where
  pub skipped : List Token
  pub stands : ts ≡ skipped ++ t ∷ left
  pub closed : in_comment_behind false skipped ≡ false
  pub nothing : outside false skipped ≡ []
  pub opens_none : bytes_eq t.text (codes "$(") ≡ false

-- only comments were passed over
pub record IsPassedOver (ts left : List Token) : Type 0 where
  pub skipped : List Token
  pub stands : ts ≡ skipped ++ left
  pub closed : in_comment_behind false skipped ≡ false
  pub nothing : outside false skipped ≡ []
