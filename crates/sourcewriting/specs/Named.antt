-- What may stand in a proof: names.
use Rattle.std.specs.Prelude.{IsTrue, List, All}
use Rattle.mmtext.specs.Words.{Word, is_label}
use Rattle.items.specs.Layout.{is_word}

-- a label token, of one character at least (section 4.1.1)
pub record IsName (w : Word) : Type 0 where
  pub label : IsTrue (is_label w)
  pub some : IsTrue (is_word w)

abbrev pub AreNames : List Word → Type 0
AreNames ws = All IsName ws
