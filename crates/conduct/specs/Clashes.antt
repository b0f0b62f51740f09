-- Clashes of one path with several.
use Rattle.std.specs.Prelude.{List, map}
use Rattle.conduct.specs.Comparing.{Clash}
use Rattle.outside.specs.Events.{Bytes}

-- with each of these, and the line that tells the other path
abbrev pub clash_of : Bytes → (Bytes → Bytes) → Bytes → Clash
clash_of one line other = record { one = one; other = other; line = line other }

abbrev pub clashes_with : Bytes → (Bytes → Bytes) → List Bytes → List Clash
clashes_with one line others = map (clash_of one line) others
