-- The exported text of a library, and which texts are accepted.
use Rattle.std.specs.Prelude.{ℕ, List}
use Rattle.mmsyntax.specs.Tables.{Contents}
use Rattle.mmsyntax.specs.Grammar.{Spells}
use Rattle.mmsyntax.specs.Layout.{text_of}
use Rattle.derivation.specs.Databases.{AllCheck}
use Rattle.library.specs.Library.{Listed, shown_database}

-- the canonical layout of what a library shows: the prelude, then its assertions in export order
abbrev pub exported_text : Listed → List ℕ
exported_text l = text_of (shown_database l)

-- a text is accepted where it is spelled by a database each of whose proofs checks over the earlier assertions
pub record Accepts (bytes : List ℕ) : Type 0 where
  pub database : Contents
  pub spells : Spells bytes database
  pub checks : AllCheck database

-- so is the text of a library
abbrev pub IsAccepted : Listed → Type 0
IsAccepted library = Accepts (exported_text library)
