-- Substitution: each variable replaced by an expression, all at once (Metamath book, section 4.1.4).
use Rattle.std.specs.Prelude.{ℕ, List, [], ◌∷◌, ◌++◌, ◌==◌, if◌then◌else◌}
use Rattle.mmsyntax.specs.declared.statement.Symbol.{Symbol}
use Rattle.mmsyntax.specs.declared.statement.Symbol.TheVariants.{Const, Var}

-- what stands for a variable: the expression of its first pair, or else the variable itself
abbrev pub replacement : List (ℕ × List Symbol) → ℕ → List Symbol
replacement [] j = Var j ∷ []
replacement (s ∷ ss) j = if s.0 == j then s.1 else replacement ss j

-- an expression in which each variable is replaced: what comes in is not replaced again
abbrev pub subst : List (ℕ × List Symbol) → List Symbol → List Symbol
subst s [] = []
subst s (Const c ∷ e) = Const c ∷ subst s e
subst s (Var j ∷ e) = replacement s j ++ subst s e
