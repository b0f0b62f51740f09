-- The comments of a source are in the text with the edits, but those that go with assertions that were deleted.
use Rattle.std.specs.Prelude.{◌≡◌, ℕ, Bool, List, length, map, All, IsPermutation}
use mathlib.Core.Bool.{not}
use Rattle.mmtext.specs.Words.{Word}
use Rattle.giving.specs.Staying.{Change}
use Rattle.source.specs.Flags.{kept}
use Rattle.comments.specs.Comments.{comments, reading, reading_then}
use Rattle.comments.specs.Deleted.{IsOfDeleted}

-- each comment between statements of the source stands between statements of the text, with changed labels, as often as in the source, and
-- no other does, but for some that go with deleted assertions, and stand there no more
pub record AreKept (cs : List Change) (gone : List Word) (source out : List ℕ) : Type 0 where
  pub stay : List Bool
  pub many : length stay ≡ length (comments source)
  pub left : All (IsOfDeleted gone source) (kept (map not stay) (comments source))
  pub same : IsPermutation (map (λ c. reading c.words) (comments out)) (map (reading_then cs) (kept stay (comments source)))

-- a comment is lost or made: where some are left out that go with deleted assertions, those of the source, with changed labels, aren't
-- those of the text, as often as there. Where none was deleted, all are compared
pub record AreLost (cs : List Change) (gone : List Word) (source out : List ℕ) : Type 0 where
  pub stay : List Bool
  pub many : length stay ≡ length (comments source)
  pub left : All (IsOfDeleted gone source) (kept (map not stay) (comments source))
  pub differ : IsPermutation (map (λ c. reading c.words) (comments out)) (map (reading_then cs) (kept stay (comments source))) → ⊥
