-- Of the code's inside, apart from the rules: words with changed labels, one by one.
use Rattle.std.specs.Prelude.{◌≡◌, ℕ, List, [], ◌∷◌, ◌++◌, map, is_some}
use Rattle.mmtext.specs.Words.{Word}
use Rattle.giving.specs.Staying.{Change, changed}
use Rattle.items.specs.declared.part.Part.{Part}
use Rattle.items.specs.declared.part.Part.TheVariants.{Label, Symbols, Proof, Labels, Steps, Fixed}
use Rattle.items.specs.declared.place.WordPlace.{WordPlace}
use Rattle.items.specs.Items.{Item, outside, words}
use Rattle.items.specs.Renaming.{labels_then, proof_then, symbols_then, reworded, with_words}

-- the words of a statement from a part of it on
abbrev pub label_then : List Change → List Word → List Word
label_then cs [] = []
label_then cs (w ∷ ws) = changed cs w ∷ symbols_then cs ws

abbrev pub part_then : List Change → Part → List Word → List Word
part_then cs Label ws = label_then cs ws
part_then cs Symbols ws = symbols_then cs ws
part_then cs Proof ws = proof_then cs ws
part_then cs Labels ws = labels_then cs ws
part_then cs Steps ws = map (changed cs) ws
part_then cs Fixed ws = ws

-- the words of an item from a place in it on
abbrev pub place_then : List Change → WordPlace → List Word → List Word
place_then cs p ws = reworded cs p.comment (part_then cs p.part (outside (is_some p.comment) ws)) ws

-- the same pieces with these words
abbrev pub rest_then : List Change → WordPlace → Item → Item
rest_then cs p x = with_words x (place_then cs p (words x))

-- one word more reads so, and leads to a place
abbrev pub TakesWord : List Change → WordPlace → Word → Word → WordPlace → Type 0
TakesWord cs old w v new = (ws : List Word) → place_then cs old (w ∷ ws) ≡ v ∷ place_then cs new ws

abbrev pub TakesSaid : List Change → Part → Word → Word → Part → Type 0
TakesSaid cs old w v new = (ws : List Word) → part_then cs old (w ∷ ws) ≡ v ∷ part_then cs new ws

-- something is put behind bytes
abbrev pub IsPut : List ℕ → List ℕ → (List ℕ → Type 0) → Type 0
IsPut old new says = (now : List ℕ) × (new ≡ old ++ now) × says now
