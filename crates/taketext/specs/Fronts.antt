-- What may stand in front of a text without changing what it says: white space and comments (Metamath book, sections 4.1.1 and 4.1.2).
use Rattle.std.specs.Prelude.{◌≡◌, ◌↔◌, ℕ, false, List, [], ◌∷◌, ◌++◌, Some, IsTrue, codes}
use Rattle.std.specs.List.{list_any}
use Rattle.mmtext.specs.Text.{tokens, is_white, has_comment_mark, IsClean}
use Rattle.mmtext.specs.Comments.{words_of, without_comments}
use Rattle.mmsyntax.specs.Tables.{Contents}
use Rattle.mmsyntax.specs.Grammar.{Spells}
use Rattle.source.specs.Scopes.{Scope}
use Rattle.source.specs.Sources.{DeclaresText}

-- white space ends a word: the words of a text are those in front of a white byte, and then those behind it (section 4.1.1)
abbrev pub WhiteSpaceEndsWords : Type 0
WhiteSpaceEndsWords =
    (front rest : List ℕ) (white : ℕ) → IsTrue (is_white white)
    → words_of (tokens (front ++ white ∷ rest)) ≡ words_of (tokens front) ++ words_of (tokens rest)

-- lawful bytes without a word outside of comments: white space, and comments that are closed
pub record SaysNothing (bytes : List ℕ) : Type 0 where
  pub clean : IsClean bytes
  pub no_words : without_comments false (words_of (tokens bytes)) ≡ Some []

-- a comment says nothing: $(, lawful bytes between white space, of whose words none has $( or $) in it, and $) (section 4.1.2)
abbrev pub CommentsSayNothing : Type 0
CommentsSayNothing =
    (first last : ℕ) (inside : List ℕ) → IsTrue (is_white first) → IsTrue (is_white last) → IsClean inside
    → list_any has_comment_mark (words_of (tokens inside)) ≡ false
    → SaysNothing (codes "$(" ++ (first ∷ (inside ++ (last ∷ codes "$)"))))

-- behind what says nothing, and white space, a text spells the database that it spells alone
abbrev pub SpelledBehindComments : Type 0
SpelledBehindComments =
    (front rest : List ℕ) (white : ℕ) (db : Contents) → SaysNothing front → IsTrue (is_white white)
    → Spells (front ++ white ∷ rest) db ↔ Spells rest db

-- and declares the source that it declares alone
abbrev pub DeclaredBehindComments : Type 0
DeclaredBehindComments =
    (front rest : List ℕ) (white : ℕ) (s : Scope) → SaysNothing front → IsTrue (is_white white)
    → DeclaresText (front ++ white ∷ rest) s ↔ DeclaresText rest s
