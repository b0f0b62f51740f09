-- Of the code's inside, apart from the rules: what the map of changed labels finds, and texts by labels.
use Rattle.std.specs.Prelude.{◌≡◌, ℕ, List, Vec, find, map, Option}
use Rattle.std.specs.Option.{option_map}
use Rattle.std.specs.Borrow.{Bor}
use Rattle.std.specs.Str.{bytes_eq}
use Rattle.std.specs.HashMap.{HashMap, get_by}
use Rattle.std.specs.declared.alloc.Global.{Global}
use Rattle.std.specs.declared.random_state.RandomState.{RandomState}
use Rattle.mmtext.specs.Words.{Word}
use Rattle.giving.specs.Staying.{Change}

-- the new label that a map has for a label
abbrev pub looks_up : HashMap (Bor (List ℕ)) (Bor (List ℕ)) RandomState → Word → Option Word
looks_up m w = option_map (λ n. n.now) (get_by (λ k. bytes_eq w k.now) m)

-- a map finds the first change of each label
abbrev pub FindsChanges : HashMap (Bor (List ℕ)) (Bor (List ℕ)) RandomState → List Change → Type 0
FindsChanges m cs = (w : Word) → looks_up m w ≡ option_map (λ c. c.1) (find (λ c. bytes_eq w c.0) cs)

-- texts by labels
abbrev pub seen_texts : List (Bor (List ℕ) × Vec ℕ Global) → List Change
seen_texts ts = map (λ t. (t.0.now, t.1.items)) ts
