-- Of the code's inside, apart from the rules: how far a source was printed.
use Rattle.std.specs.Prelude.{ℕ, List, ◌∷◌, ◌++◌, drop}
use Rattle.giving.specs.Staying.{Change}
use Rattle.items.specs.Items.{Item}
use Rattle.arranging.specs.declared.coming.Placed.{Placed}
use Rattle.arranging.specs.Arranged.{Says}

-- a text says what stands next, where so many items of a source stand in front of it, and so many in front of what follows
abbrev pub SaysNext : List Change → List Change → List Item → Placed → ℕ → ℕ → List ℕ → Type 0
SaysNext cs proofs old p place next now =
    (rest : List ℕ) (ps : List Placed) (later : List ℕ) → Says cs proofs old rest (drop next old) ps later
    → Says cs proofs old rest (drop place old) (p ∷ ps) (now ++ later)
