-- How contracts see the tables of a place.
use Rattle.std.specs.Prelude.{Bool, List}
use Rattle.source.specs.Scopes.{Stand}

-- what stands, and of each active hypothesis whether it is mandatory for the expression that was framed last
pub record Seen : Type 0 where
  pub stand : Stand
  pub marks : List Bool
