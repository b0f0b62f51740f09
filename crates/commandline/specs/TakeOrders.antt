-- What a command line asks to take, by what its parser found in the words.
use Rattle.std.specs.Prelude.{◌≡◌, List, Option, Some, None, codes}
use Rattle.clap.specs.Words.{Row, Text, all_of, first_of}
use Rattle.commandline.specs.Orders.{all_listed, rows_in}

-- the subcommand `take`, with a source
abbrev pub AsksToTake : Option (Text × List Row) → Text → Type 0
AsksToTake (Some p) path = (p.0 ≡ codes "take") × (first_of (codes "SOURCE") p.1 ≡ Some path)
AsksToTake None path = ⊥

-- its source, the labels of `--for`, and those of `--from` and `--to`
pub record IsTakeOrder (found : Option (Text × List Row)) (path : Text) (labels : List Text) (from to : Option Text) : Type 0 where
  pub asked : AsksToTake found path
  pub wished : labels ≡ all_listed (all_of (codes "for") (rows_in found))
  pub first : from ≡ first_of (codes "from") (rows_in found)
  pub last : to ≡ first_of (codes "to") (rows_in found)
