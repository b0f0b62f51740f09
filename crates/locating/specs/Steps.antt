-- Where a step of a theorem's proof stands in the text of a source (Metamath book, section 4.2.8; compressed proofs: appendix B).
use Rattle.std.specs.Prelude.{ℕ, suc, ◌+◌, ◌-◌, Bool, ◌||◌, ◌&&◌, ◌==◌, nat_le, List, [], ◌∷◌, map, length, codes}
use Rattle.std.specs.Prelude.{Option, Some, None, slice_get, if◌then◌else◌}
use Rattle.std.specs.List.{flat_map, after_first, before_first}
use Rattle.std.specs.Option.{option_and_then}
use Rattle.mmtext.specs.Words.{Word}
use Rattle.mmtext.specs.Text.{Token}
use Rattle.locating.specs.declared.spot.Spot.{Spot}
use Rattle.locating.specs.declared.steps.Ending.{Ending}
use Rattle.locating.specs.Fronts.{words_of, says}

-- from the label of a theorem on: the first word in front of $p that is its label, since each label stands once
abbrev pub from_theorem : Word → List Token → List Token
from_theorem label [] = []
from_theorem label (t ∷ []) = []
from_theorem label (t ∷ u ∷ ts) =
    if says label t && says (codes "$p") u then t ∷ u ∷ ts else from_theorem label (u ∷ ts)

-- the words of its proof
abbrev pub proof_words : Word → List Token → List Token
proof_words label ts = before_first (says (codes "$.")) (after_first (says (codes "$=")) (from_theorem label ts))

-- A to T end a number, and ? is a step; U to Y begin one, and Z marks the step in front of it (appendix B)
abbrev pub ends_step : ℕ → Bool
ends_step b = (nat_le 65 b && nat_le b 84) || (b == 63)

-- the bytes that end a step, from one of a word at a place on
abbrev pub ends_from : ℕ → ℕ → List ℕ → List Ending
ends_from place at [] = []
ends_from place at (b ∷ bs) =
    if ends_step b then record { word = place; behind = at; length = 1 } ∷ ends_from place (suc at) bs
    else ends_from place (suc at) bs

abbrev pub step_ends : Token → List Ending
step_ends t = ends_from t.place 0 t.text

abbrev pub whole_word : Token → Ending
whole_word t = record { word = t.place; behind = 0; length = length t.text }

-- each step, as steps are counted: labels, or ends of numbers
abbrev pub steps_of : List Token → List Ending
steps_of [] = []
steps_of (t ∷ ts) = if says (codes "(") t then flat_map step_ends (after_first (says (codes ")")) ts) else map whole_word (t ∷ ts)

-- where it stands, which is in the text
abbrev pub spot_in : List ℕ → Ending → Option Spot
spot_in text e =
    if nat_le (e.word + e.behind) (length text) then Some (record { place = e.word + e.behind; length = e.length }) else None

-- the step with this number, from 1, in the proof of the theorem with this label
abbrev pub step_at : List ℕ → Word → ℕ → Option Spot
step_at text label step =
    option_and_then (λ ts. option_and_then (spot_in text) (slice_get (steps_of (proof_words label ts)) (step - 1))) (words_of text)

abbrev pub first_of : List Token → Option Spot
first_of [] = None
first_of (t ∷ ts) = Some (record { place = t.place; length = length t.text })

-- the theorem's label
abbrev pub theorem_at : List ℕ → Word → Option Spot
theorem_at text label = option_and_then (λ ts. first_of (from_theorem label ts)) (words_of text)
