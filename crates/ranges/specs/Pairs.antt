-- What a transaction read or wrote: cells, each with a value.
use Rattle.std.specs.Prelude.{ℕ, ◌==◌, if◌then◌else◌, Option, Some, None, List, [], ◌∷◌}

-- cells with values
abbrev pub Pairs : Type 0
Pairs = List (ℕ × ℕ)

-- the value that stands first for the cell
abbrev pub written : ℕ → Pairs → Option ℕ
written c [] = None
written c (p ∷ ps) = if p.0 == c then Some p.1 else written c ps
