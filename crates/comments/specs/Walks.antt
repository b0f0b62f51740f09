-- Of the code's inside, apart from the rules: what is known of a walk that reads comments.
use Rattle.std.specs.Prelude.{◌≡◌, ◌≤◌, ◌<◌, ◌⊎◌, ℕ, Bool, true, false, List, [], ◌∷◌, ◌++◌, length, map, None, All, Vec, codes}
use mathlib.Core.Bool.{not}
use Rattle.std.specs.declared.alloc.Global.{Global}
use Rattle.mmtext.specs.Words.{Word}
use Rattle.mmtext.specs.Text.{Token, tokens}
use Rattle.giving.specs.Staying.{Change}
use Rattle.source.specs.Flags.{kept}
use Rattle.comments.specs.declared.walking.SourceWalk.{SourceWalk}
use Rattle.comments.specs.Comments.{Comment, comments_from, comments, reading_then}
use Rattle.comments.specs.Deleted.{IsInFront, IsOfDeleted}
use Rattle.comments.specs.Outside.{tokens_at, in_comment_behind}
use Rattle.comments.specs.Passing.{IsClosed}
use Rattle.comments.specs.Blocks.{IsBlockEnd, IsInBlockUntil}

-- texts of the code
abbrev pub seen_texts : List (Vec ℕ Global) → List (List ℕ)
seen_texts vs = map (λ v. v.items) vs

-- a comment, and the tokens behind it
abbrev pub comment_of : List Word → List Token → Comment
comment_of ws ts = record { words = ws; behind = ts }

-- ---- one step

-- behind a word a deleted block may begin
abbrev pub MayEnd : List Word → List ℕ → List Token → ℕ → ℕ → Type 0
MayEnd gone word left old new = (new ≡ old) ⊎ ((word ≡ codes "${") × IsBlockEnd gone left new)

-- a comment between statements stays, or goes with an assertion that was deleted
abbrev pub MayStay : List Change → List Word → Bool → List Word → List Token → ℕ → ℕ → List (List ℕ) → List (List ℕ) → Type 0
MayStay cs gone true words left end until old new = new ≡ old
MayStay cs gone false words left end until old new =
    (new ≡ old ++ reading_then cs (comment_of words left) ∷ []) ⊎ ((new ≡ old) × ((end < until) ⊎ IsInFront gone (comment_of words left)))

-- a comment was taken, up to its end
pub record IsCommentTaken (cs : List Change) (gone : List Word) (source : List ℕ) (from : ℕ) (old new : SourceWalk) (end : ℕ) : Type 0 where
  pub words : List Word
  pub closed : IsClosed old.stating words (tokens_at source from) (tokens_at source end) end
  pub stating : new.stating ≡ old.stating
  pub until : new.until ≡ old.until
  pub texts : MayStay cs gone old.stating words (tokens_at source end) end old.until (seen_texts old.texts.items)
      (seen_texts new.texts.items)
  pub later : from ≤ end
  pub within : end ≤ length source

-- ---- the walk

-- before the tokens that are left, which stand in no comment, from a place on: of the comments so far those that stay were read
pub record IsWalked (cs : List Change) (gone : List Word) (source : List ℕ) (left : List Token) (at : ℕ) (w : SourceWalk) : Type 0 where
  pub front : List Token
  pub all : tokens source ≡ front ++ left
  pub closed : in_comment_behind false front ≡ false
  pub so_far : List Comment
  pub splits : comments source ≡ so_far ++ comments_from w.stating None left
  pub stay : List Bool
  pub many : length stay ≡ length so_far
  pub left_out : All (IsOfDeleted gone source) (kept (map not stay) so_far)
  pub texts : seen_texts w.texts.items ≡ map (reading_then cs) (kept stay so_far)
  pub block : IsInBlockUntil gone source left at w.until

-- all that stay were read
pub record AreTexts (cs : List Change) (gone : List Word) (source : List ℕ) (texts : List (List ℕ)) : Type 0 where
  pub stay : List Bool
  pub many : length stay ≡ length (comments source)
  pub left_out : All (IsOfDeleted gone source) (kept (map not stay) (comments source))
  pub same : texts ≡ map (reading_then cs) (kept stay (comments source))
