-- Of the code's inside, apart from the rules: which variables change, and what sets of words have.
use Rattle.std.specs.Prelude.{◌≡◌, ℕ, Bool, false, ◌||◌, List, [], ◌∷◌, map}
use Rattle.std.specs.Borrow.{Bor}
use Rattle.std.specs.Str.{bytes_eq}
use Rattle.std.specs.HashSet.{HashSet, contains_by}
use Rattle.std.specs.declared.alloc.Global.{Global}
use Rattle.std.specs.Prelude.{Vec}
use Rattle.std.specs.declared.random_state.RandomState.{RandomState}
use Rattle.mmtext.specs.Words.{Word, has_hypothesis_form}
use Rattle.mmsyntax.specs.Dotted.{trunk}
use Rattle.source.specs.Scopes.{is_in}
use Rattle.source.specs.Views.{has}

-- a set has a word that was given
abbrev pub has_given : HashSet (Vec ℕ Global) RandomState → Word → Bool
has_given set w = contains_by (λ k. bytes_eq w k.items) set

-- a variable changes that has the form of a hypothesis' label, or that stands behind too
abbrev pub variables_changing : List Word → List Bool
variables_changing [] = []
variables_changing (w ∷ ws) = (has_hypothesis_form w || is_in ws w) ∷ variables_changing ws

-- a set has the L of each label L.k, each other label whole, and nothing else
abbrev pub HasTrunks : HashSet (Bor (List ℕ)) RandomState → List Word → Type 0
HasTrunks set labels = (w : Word) → has set w ≡ is_in (map trunk labels) w

-- a set has nothing
abbrev pub HasNothing : HashSet (Vec ℕ Global) RandomState → Type 0
HasNothing set = (w : Word) → has_given set w ≡ false
