-- What a command line asks to give back, by what its parser found in the words.
use Rattle.std.specs.Prelude.{◌≡◌, List, Option, Some, None, codes}
use Rattle.clap.specs.Words.{Row, Text, first_of}

-- the subcommand `give`, with a source, a library and a history
pub record IsGiveOf (name : Text) (rows : List Row) (source library history : Text) : Type 0 where
  pub named : name ≡ codes "give"
  pub source_given : first_of (codes "SOURCE") rows ≡ Some source
  pub library_given : first_of (codes "LIBRARY") rows ≡ Some library
  pub history_given : first_of (codes "HISTORY") rows ≡ Some history

abbrev pub AsksToGive : Option (Text × List Row) → Text → Text → Text → Type 0
AsksToGive (Some p) source library history = IsGiveOf p.0 p.1 source library history
AsksToGive None source library history = ⊥
