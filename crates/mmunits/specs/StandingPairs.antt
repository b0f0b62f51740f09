-- Of the code's inside, apart from the rules: pairs that stand already.
use Rattle.std.specs.Prelude.{◌≡◌, ℕ, List, All}
use Rattle.mmsyntax.specs.Blocks.{with_pair}

-- to put any of some pairs among others changes nothing
abbrev pub StandAmong : List (ℕ × ℕ) → List (ℕ × ℕ) → Type 0
StandAmong ps cells = All (λ p. with_pair p ps ≡ ps) cells
