-- The line of a fault of a text: its place, the statement's label, the rule in plain words and the fault as programs know it; then the line
-- of the text, and signs below the word at fault, where they fit.
use Rattle.std.specs.Prelude.{ℕ, ◌-◌, nat_le, nat_lt, Bool, ◌&&◌, List, [], ◌∷◌, ◌++◌, take, length, Option, Some, None, codes, if◌then◌else◌}
use Rattle.std.specs.List.{list_all, repeat}
use Rattle.std.specs.Str.{is_utf8}
use Rattle.std.specs.Fmt.{decimal}
use Rattle.mmtext.specs.FaultNames.{printed_fault}
use Rattle.mmtext.specs.Words.{Word}
use Rattle.mmtext.specs.Text.{Token}
use Rattle.mmtext.specs.declared.fault.TextFault.{TextFault}
use Rattle.derivation.specs.FaultNames.{printed_proof_fault}
use Rattle.derivation.specs.declared.fault.ProofFault.{ProofFault}
use Rattle.locating.specs.declared.spot.Spot.{Spot}
use Rattle.locating.specs.Lines.{line_at, column_at, line_front, line_rest, word_from}
use Rattle.locating.specs.Fronts.{words_of, front_of, label_in}
use Rattle.locating.specs.Steps.{step_at}
use Rattle.locating.specs.Rules.{text_rule, source_rule, proof_rule}

-- a name as it is printed: itself, where it is text, as each name of a source is
abbrev pub shown : List ℕ → List ℕ
shown name = if is_utf8 name then name else codes "?"

-- a byte of one column
abbrev pub is_visible : ℕ → Bool
is_visible b = nat_le 32 b && nat_lt b 127

-- the line of a place, in 120 columns
abbrev pub line_text : List ℕ → ℕ → List ℕ
line_text text place = line_front text place ++ line_rest text place

abbrev pub fits : List ℕ → Bool
fits line = nat_le (length line) 120 && list_all is_visible line && is_utf8 line

-- one sign at least
abbrev pub signs : ℕ → ℕ → List ℕ
signs front many = repeat front (32 ∷ []) ++ (94 ∷ repeat (many - 1) (94 ∷ []))

abbrev pub excerpt : List ℕ → Spot → List ℕ
excerpt text spot =
    if fits (line_text text spot.place)
    then 10 ∷ (line_text text spot.place ++ (10 ∷ signs (length (line_front text spot.place)) spot.length)) else []

-- behind the label of a statement, if it is in one
abbrev pub labelled : Option Word → List ℕ → List ℕ
labelled None said = said
labelled (Some label) said = shown label ++ (codes ": " ++ said)

abbrev pub told_rule : List ℕ → List ℕ → List ℕ
told_rule rule fault = rule ++ (codes " (" ++ (fault ++ codes ")"))

-- PATH:LINE:COLUMN: and what is said, and the line; where the place isn't known, behind the path alone
abbrev pub told_at : List ℕ → List ℕ → Option Spot → List ℕ → List ℕ
told_at path text None said = path ++ (codes ": " ++ said)
told_at path text (Some spot) said =
    path ++ (codes ":" ++ (decimal (line_at text spot.place) ++ (codes ":" ++ (decimal (column_at text spot.place)
    ++ (codes ": " ++ (said ++ excerpt text spot))))))

-- the word at a place
abbrev pub spot_at : List ℕ → ℕ → Spot
spot_at text place = record { place = place; length = length (word_from text place) }

-- as programs know it, as in: text 2 BadToken at byte 6
abbrev pub fault_text : TextFault → List ℕ
fault_text fault = codes "text " ++ printed_fault fault

-- of a text of any language
abbrev pub text_line : List ℕ → List ℕ → TextFault → List ℕ
text_line path text fault =
    told_at path text (Some (spot_at text fault.place)) (told_rule (text_rule text fault.kind) (fault_text fault))

abbrev pub label_behind : Option (List Token) → Option Word
label_behind None = None
label_behind (Some ts) = label_in (front_of ts)

-- of a source
abbrev pub source_line : List ℕ → List ℕ → TextFault → List ℕ
source_line path text fault =
    told_at path text (Some (spot_at text fault.place))
    (labelled (label_behind (words_of (take fault.place text))) (told_rule (source_rule text fault) (fault_text fault)))

-- as in: proof of th1: step 3: 6 NotOneLeft
abbrev pub proof_fault_text : Word → ProofFault → List ℕ
proof_fault_text label fault = codes "proof of " ++ (shown label ++ (codes ": " ++ printed_proof_fault fault))

-- of a proof of a source
abbrev pub proof_line : List ℕ → List ℕ → Word → ProofFault → List ℕ
proof_line path text label fault =
    told_at path text (step_at text label fault.step)
    (labelled (Some label) (told_rule (proof_rule fault.kind) (proof_fault_text label fault)))
