-- Of the code's inside, apart from the rules: a library in which nothing has a place.
use Rattle.std.specs.Prelude.{[]}
use Rattle.taking.specs.Names.{Map}

abbrev pub nowhere : Map
nowhere = record { constants = []; floats = []; variables = []; labels = [] }
