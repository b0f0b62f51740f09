-- Of the code's inside, apart from the rules: the symbols of a hypothesis.
use Rattle.std.specs.Prelude.{ℕ, List, [], slice_get}
use Rattle.std.specs.Option.{option_map_or}
use Rattle.mmtext.specs.Words.{Word}
use Rattle.source.specs.Scopes.{Hypothesis, typing, premise}

-- those of a $e; a $f has none
abbrev pub symbols_of : Hypothesis → List Word
symbols_of (typing label c v) = []
symbols_of (premise label ws) = ws

-- those of the hypothesis at a place
abbrev pub symbols_at : List Hypothesis → ℕ → List Word
symbols_at hs i = option_map_or symbols_of (slice_get hs i) []
