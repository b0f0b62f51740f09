-- Of the code's inside, apart from the rules: maps from words.
use Rattle.std.specs.Prelude.{◌≡◌, ℕ, List, Vec, Some, None, if◌then◌else◌}
use Rattle.std.specs.Option.{option_or}
use Rattle.std.specs.Str.{bytes_eq}
use Rattle.std.specs.HashMap.{HashMap, get_by}
use Rattle.std.specs.declared.alloc.Global.{Global}
use Rattle.std.specs.declared.random_state.RandomState.{RandomState}

-- n finds x at the word, and at each other word what m finds there
abbrev pub FindsToo : {X : Type 0} → HashMap (Vec ℕ Global) X RandomState → List ℕ → X → HashMap (Vec ℕ Global) X RandomState → Type 0
FindsToo m word x n =
    (w : List ℕ) → get_by (λ k. bytes_eq w k.items) n ≡ (if bytes_eq word w then Some x else get_by (λ k. bytes_eq w k.items) m)

-- n finds what m finds, and x at the word where m finds nothing there
abbrev pub FindsUnlessBefore : {X : Type 0} → HashMap (Vec ℕ Global) X RandomState → List ℕ → X → HashMap (Vec ℕ Global) X RandomState
    → Type 0
FindsUnlessBefore m word x n =
    (w : List ℕ) → get_by (λ k. bytes_eq w k.items) n
    ≡ option_or (get_by (λ k. bytes_eq w k.items) m) (if bytes_eq word w then Some x else None)
