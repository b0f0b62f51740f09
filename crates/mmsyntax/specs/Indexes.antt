-- Of the code's inside, apart from the rules: what is always true of the fields of a symbol table.
use Rattle.std.specs.Prelude.{◌≡◌, ◌<◌, ◌≤◌, ℕ, List, length, Vec}
use Rattle.std.specs.List.{AllByRecursion}
use Rattle.std.specs.Str.{bytes_eq}
use Rattle.std.specs.HashMap.{HashMap, get_by}
use Rattle.std.specs.declared.alloc.Global.{Global}
use Rattle.std.specs.declared.random_state.RandomState.{RandomState}
use Rattle.mmsyntax.specs.declared.statement.Float.{Float}
use Rattle.mmsyntax.specs.declared.symbols.Name.{Name}
use Rattle.mmsyntax.specs.Tables.{Tables, meaning}
use Rattle.mmsyntax.specs.declared.limits.TheConstants.{MOST_DECLARED}

-- each $f is of a variable
abbrev pub AreTyped : List Float → ℕ → Type 0
AreTyped fs count = AllByRecursion (λ f. f.variable < count) fs

-- the map finds what each word means
abbrev pub IsIndexed : HashMap (Vec ℕ Global) Name RandomState → Tables → Type 0
IsIndexed m t = (w : List ℕ) → get_by (λ k. bytes_eq w k.items) m ≡ meaning t w

-- what is always true of the fields of a prelude
pub record IsSymbolTable (m : HashMap (Vec ℕ Global) Name RandomState) (t : Tables) : Type 0 where
  pub indexed : IsIndexed m t
  pub typed : AreTyped t.floats (length t.variables)
  pub few : length t.floats ≤ MOST_DECLARED
  pub few_constants : length t.constants ≤ MOST_DECLARED
