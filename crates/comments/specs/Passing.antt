-- Of the code's inside, apart from the rules: what is known while a comment is read, and behind it.
use Rattle.std.specs.Prelude.{◌≡◌, ℕ, Bool, true, false, List, [], ◌∷◌, ◌++◌, Some, None}
use Rattle.mmtext.specs.Words.{Word}
use Rattle.mmtext.specs.Text.{Token}
use Rattle.comments.specs.Comments.{Comment, comments_from}
use Rattle.comments.specs.Outside.{outside, in_comment_behind, EndBy}

-- tokens of a comment were read up to a place, and its $) isn't among them; these words of it count, if it stands in no statement
pub record IsPassing (stating : Bool) (words : List Word) (ts left : List Token) (at : ℕ) : Type 0 where
  pub body : List Token
  pub stands : ts ≡ body ++ left
  pub still : in_comment_behind true body ≡ true
  pub nothing : outside true body ≡ []
  pub passed : EndBy at body
  pub same : comments_from stating (Some []) ts ≡ comments_from stating (Some words) left

-- the comments from the end of one on
abbrev pub closed_then : Bool → List Word → List Token → List Comment
closed_then true words left = comments_from true None left
closed_then false words left = record { words = words; behind = left } ∷ comments_from false None left

-- the comment was read, up to its end
pub record IsClosed (stating : Bool) (words : List Word) (ts left : List Token) (end : ℕ) : Type 0 where
  pub body : List Token
  pub stands : ts ≡ body ++ left
  pub closed : in_comment_behind true body ≡ false
  pub nothing : outside true body ≡ []
  pub passed : EndBy end body
  pub same : comments_from stating (Some []) ts ≡ closed_then stating words left
