-- The comments of a text that stand between its statements, and how they read with changed labels (Metamath book, section 4.1.2).
use Rattle.std.specs.Prelude.{◌||◌, ℕ, Bool, true, false, List, [], ◌∷◌, ◌++◌, Option, Some, None, if◌then◌else◌, codes}
use Rattle.std.specs.List.{flat_map}
use Rattle.std.specs.Str.{bytes_eq}
use mathlib.Core.Bool.{not}
use Rattle.mmtext.specs.Words.{Word}
use Rattle.mmtext.specs.Text.{Token, tokens}
use Rattle.giving.specs.Staying.{Change}
use Rattle.commentwords.specs.Words.{at_first, words_then}

-- a comment: its words, and the tokens behind it
pub record Comment : Type 0 where
  pub words : List Word
  pub behind : List Token

-- a keyword of a block, or the end of a statement: behind it no statement is open
abbrev pub stands_between : Word → Bool
stands_between w = bytes_eq w (codes "$.") || bytes_eq w (codes "${") || bytes_eq w (codes "$}")

-- the comments between statements, where a statement may be open before the tokens, or a comment, of which these words were read: $( opens
-- a comment, and $) closes it (section 4.1.2)
abbrev pub comments_from : Bool → Option (List Word) → List Token → List Comment
comments_from stating said [] = []
comments_from stating None (t ∷ ts) =
    if bytes_eq t.text (codes "$(") then comments_from stating (Some []) ts else comments_from (not (stands_between t.text)) None ts
comments_from true (Some ws) (t ∷ ts) =
    if bytes_eq t.text (codes "$)") then comments_from true None ts else comments_from true (Some ws) ts
comments_from false (Some ws) (t ∷ ts) =
    if bytes_eq t.text (codes "$)") then record { words = ws; behind = ts } ∷ comments_from false None ts
    else comments_from false (Some (ws ++ t.text ∷ [])) ts

-- those of a text
abbrev pub comments : List ℕ → List Comment
comments text = comments_from false None (tokens text)

-- ---- how a comment reads

-- its words, with one space behind each
abbrev pub with_space : Word → List ℕ
with_space w = w ++ 32 ∷ []

abbrev pub reading : List Word → List ℕ
reading ws = flat_map with_space ws

-- with changed labels, where its words speak of them
abbrev pub reading_then : List Change → Comment → List ℕ
reading_then cs c = reading (words_then cs at_first c.words)
