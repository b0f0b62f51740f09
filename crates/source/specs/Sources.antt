-- What a source declares: a text has the words of lawful statements, and what stands behind them (Metamath book, sections 4.1 and 4.2).
use Rattle.std.specs.Prelude.{◌≡◌, ℕ, false, List, Some, IsTrue}
use Rattle.mmtext.specs.Text.{tokens, IsClean}
use Rattle.mmtext.specs.Comments.{words_of, without_comments}
use Rattle.source.specs.Statements.{Statements, spellings}
use Rattle.source.specs.Scopes.{Scope, nothing, behind_all}
use Rattle.source.specs.Tests.{are_lawful}

-- lawful statements, and what stands behind them: the symbols, the labels and the assertions of all of them
pub record Declares (ss : Statements) (s : Scope) : Type 0 where
  pub lawful : IsTrue (are_lawful nothing ss)
  pub declared : behind_all nothing ss ≡ s

-- a text has lawful bytes, and its words outside of comments are those of statements that declare so
pub record DeclaresText (bytes : List ℕ) (s : Scope) : Type 0 where
  pub clean : IsClean bytes
  pub statements : Statements
  pub words_are : without_comments false (words_of (tokens bytes)) ≡ Some (spellings statements)
  pub declared : Declares statements s
