-- Of the code's inside, apart from the rules: a comment whose text is gathered.
use Rattle.std.specs.Prelude.{◌≡◌, ◌≤◌, ℕ, false, List, [], ◌∷◌, length}
use Rattle.mmtext.specs.Words.{Word}
use Rattle.mmtext.specs.Text.{Token}
use Rattle.giving.specs.Staying.{Change}
use Rattle.commentwords.specs.declared.comment_place.CommentPlace.{CommentPlace}
use Rattle.commentwords.specs.Words.{behind_word, words_then, at_first}
use Rattle.comments.specs.declared.passing.Gathered.{Gathered}
use Rattle.comments.specs.Comments.{reading}
use Rattle.comments.specs.Outside.{tokens_at}
use Rattle.comments.specs.Passing.{IsPassing, IsClosed}

-- where words stand behind others
abbrev pub standing_behind : CommentPlace → List Word → CommentPlace
standing_behind s [] = s
standing_behind s (w ∷ ws) = standing_behind (behind_word s w) ws

-- the words of a comment so far, and how they read
pub record IsReadSoFar (cs : List Change) (ts left : List Token) (at : ℕ) (text : List ℕ) (s : CommentPlace) : Type 0 where
  pub words : List Word
  pub passing : IsPassing false words ts left at
  pub reads : text ≡ reading (words_then cs at_first words)
  pub stands : s ≡ standing_behind at_first words

-- a comment of a source was read from a place on
pub record IsGathered (cs : List Change) (source : List ℕ) (from : ℕ) (c : Gathered) : Type 0 where
  pub words : List Word
  pub closed : IsClosed false words (tokens_at source from) (tokens_at source c.end) c.end
  pub reads : c.text.items ≡ reading (words_then cs at_first words)
  pub later : from ≤ c.end
  pub within : c.end ≤ length source
