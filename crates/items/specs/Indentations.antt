-- How far the proofs of a source are indented: as the first line of each is.
use Rattle.std.specs.Prelude.{ℕ, Bool, true, false, List, [], ◌∷◌, Option, Some, None, filter_map, find, if◌then◌else◌, codes}
use Rattle.std.specs.Option.{option_and_then, option_map}
use mathlib.Core.Bool.{not}
use Rattle.std.specs.Str.{bytes_eq}
use Rattle.mmtext.specs.Words.{Word}
use Rattle.giving.specs.Staying.{Change}
use Rattle.items.specs.Items.{Item, label_of}
use Rattle.items.specs.Layout.{indents}

-- the pieces outside of comments
abbrev pub plain : Bool → Item → Item
plain is_open [] = []
plain true (p ∷ ps) = plain (not (bytes_eq p.word (codes "$)"))) ps
plain false (p ∷ ps) = if bytes_eq p.word (codes "$(") then plain true ps else p ∷ plain false ps

-- the pieces behind the first of this word, and those in front of it
abbrev pub behind : Word → Item → Item
behind w [] = []
behind w (p ∷ ps) = if bytes_eq p.word w then ps else behind w ps

abbrev pub up_to : Word → Item → Item
up_to w [] = []
up_to w (p ∷ ps) = if bytes_eq p.word w then [] else p ∷ up_to w ps

-- a proof stands between $= and $. (section 4.2.8)
abbrev pub proof_of : Item → Item
proof_of x = up_to (codes "$.") (behind (codes "$=") (plain false x))

-- the spaces with which a proof's first line begins that isn't the one of its $=, if there is one
abbrev pub first_of : List (List ℕ) → Option (List ℕ)
first_of [] = None
first_of (i ∷ is) = Some i

abbrev pub indentation_of : Item → Option (List ℕ)
indentation_of x = first_of (indents (proof_of x))

-- by the labels of theorems
abbrev pub labelled : List Word → List ℕ → Option Change
labelled [] i = None
labelled (w ∷ ws) i = Some (w, i)

abbrev pub indented : Item → Option Change
indented x = option_and_then (labelled (label_of x)) (indentation_of x)

abbrev pub indentations : List Item → List Change
indentations xs = filter_map indented xs

-- the spaces with which the first line of a theorem's proof begins, if it is a line of its own
abbrev pub indentation_at : List Item → Word → Option (List ℕ)
indentation_at items label = option_map (λ c. c.1) (find (λ c. bytes_eq label c.0) (indentations items))
