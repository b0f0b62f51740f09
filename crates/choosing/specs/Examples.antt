-- Examples of choices, that compute: the definitions are neither empty nor too strong.
use Rattle.std.specs.Prelude.{◌≡◌, ℕ, List, [], ◌∷◌, ◌++◌, codes, reverse, Some, None}
use Rattle.mmtext.specs.Words.{Word}
use Rattle.source.specs.Scopes.{Assertion}
use Rattle.source.specs.Statements.{normal}
use Rattle.source.specs.Examples.{wff, ax, fx, fy}
use Rattle.taking.specs.Examples.{whole}
use Rattle.choosing.specs.Choices.{labels_of, chosen_for, chosen_between, labelled, have_room, nearest}

-- of m, n and t, of which t cites m, t alone is asked for: n isn't chosen, and nothing stands in front
abbrev pub ForTakesWhatIsNeeded : Type 0
ForTakesWhatIsNeeded = chosen_for (codes "t" ∷ []) whole ≡ record { chosen = codes "m" ∷ codes "t" ∷ []; front = []; long = [] }

-- from n to t, t cites m before them, which stands in front; from m to t it is one of them
abbrev pub BetweenTakesTheFront : Type 0
BetweenTakesTheFront =
    (chosen_between 1 2 whole ≡ record { chosen = codes "m" ∷ codes "n" ∷ codes "t" ∷ []; front = codes "m" ∷ []; long = [] })
    × (chosen_between 0 2 whole ≡ record { chosen = codes "m" ∷ codes "n" ∷ codes "t" ∷ []; front = []; long = [] })

-- two axioms without hypotheses, ax over two, and a theorem that cites all three: $p wff ( 0 1 ) $= zero one ax $.
abbrev pub alone : Word → Word → Assertion
alone label symbol = record { label = label; hypotheses = []; pairs = []; statement = wff ∷ symbol ∷ []; proof = None; active = [] }

abbrev pub three : Assertion
three = record {
  label = codes "three";
  hypotheses = [];
  pairs = [];
  statement = wff ∷ codes "(" ∷ codes "0" ∷ codes "1" ∷ codes ")" ∷ [];
  proof = Some (normal (codes "zero" ∷ codes "one" ∷ codes "ax" ∷ []));
  active = fx ∷ fy ∷ [];
}

abbrev pub four : List Assertion
four = alone (codes "zero") (codes "0") ∷ alone (codes "one") (codes "1") ∷ ax ∷ three ∷ []

-- and a theorem that cites three: $p wff ( 0 1 ) $= three $.
abbrev pub again : Assertion
again = record three { label = codes "again"; proof = Some (normal (codes "three" ∷ [])) }

abbrev pub five : List Assertion
five = four ++ again ∷ []

abbrev pub nearest_of : ℕ → List Word → List Word
nearest_of most asked = labels_of (labelled (nearest (have_room most five) asked (reverse five)) five)

-- with room for all; with room for all but one, three is an axiom, and nothing that it needs takes room: another one has it; with none
abbrev pub NearestComesFirst : Type 0
NearestComesFirst =
    (nearest_of 5 (codes "again" ∷ []) ≡ codes "zero" ∷ codes "one" ∷ codes "ax" ∷ codes "three" ∷ codes "again" ∷ [])
    × (nearest_of 4 (codes "again" ∷ []) ≡ codes "three" ∷ codes "again" ∷ [])
    × (nearest_of 4 (codes "again" ∷ codes "one" ∷ []) ≡ codes "one" ∷ codes "three" ∷ codes "again" ∷ [])
    × (nearest_of 1 (codes "again" ∷ []) ≡ codes "again" ∷ [])
