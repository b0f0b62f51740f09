-- Of the code's inside, apart from the rules: one more pair, if there is one.
use Rattle.std.specs.Prelude.{ℕ, List, Option, Some, None}
use Rattle.mmsyntax.specs.Blocks.{with_pair}

abbrev pub with_one : Option (ℕ × ℕ) → List (ℕ × ℕ) → List (ℕ × ℕ)
with_one None ps = ps
with_one (Some p) ps = with_pair p ps
