-- How many words of a store the bodies of a database take.
use Rattle.std.specs.Prelude.{◌≡◌, ◌<◌, ℕ, ◌+◌, List, length, sum_by, Option, MatchOption}
use Rattle.mmsyntax.specs.declared.statement.Assertion.{Assertion}
use Rattle.bodystore.specs.Bodies.{label_body, statement_of, statement_body}

-- the words of an assertion's bodies: its label, its statement, and a word for each step of its proof
abbrev pub body_length : Assertion → ℕ
body_length a = length (label_body a.label) + length (statement_body (statement_of a)) + length a.proof

-- those of all assertions
abbrev pub all_bodies_length : List Assertion → ℕ
all_bodies_length xs = sum_by body_length xs

-- what is left of a room where so many words are taken of it; none where they don't fit
abbrev pub IsLeft : ℕ → ℕ → Option ℕ → Type 0
IsLeft room taken rest = MatchOption rest (room < taken) (λ left. left + taken ≡ room)
