-- A law of what a source is dressed in.
use Rattle.std.specs.Prelude.{◌≡◌, ℕ, List, []}
use Rattle.dressing.specs.Dressed.{IsDressedIn}

-- where there is nothing, a source stays
abbrev pub StaysWithout : Type 0
StaysWithout = (source out : List ℕ) → IsDressedIn [] [] [] source out → out ≡ source
