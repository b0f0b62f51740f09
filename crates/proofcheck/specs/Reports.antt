-- Of the code's inside, apart from the rules: the places of labels, and what the checks of some assertions find.
use Rattle.std.specs.Prelude.{◌≡◌, ◌≢◌, ℕ, ◌+◌, ◌<◌, Option, None, Some, List, [], ◌∷◌, slice_get, nat_lt}
use Rattle.std.specs.Prelude.{if◌then◌else◌}
use Rattle.std.specs.Str.{bytes_eq}
use Rattle.mmsyntax.specs.declared.statement.Frame.{Frame}
use Rattle.mmsyntax.specs.declared.statement.Assertion.{Assertion}
use Rattle.mmsyntax.specs.Tables.{Contents}
use Rattle.derivation.specs.declared.fault.ProofFault.{ProofFault}
use Rattle.derivation.specs.declared.fault.ProofFaultKind.TheVariants.{NoMemory}
use Rattle.derivation.specs.Databases.{ChecksAt, HasFaultAt}

-- the place of the first of the assertions that has the label, where the first of all has the place n
abbrev pub place_from : ℕ → List ℕ → List Assertion → Option ℕ
place_from n label [] = None
place_from n label (a ∷ later) = if bytes_eq a.label label then Some n else place_from (n + 1) label later

-- if an assertion stands at the place, it is the first with its label
abbrev pub IsHint : List Assertion → ℕ → Type 0
IsHint db i = (a : Assertion) → slice_get db i ≡ Some a → place_from 0 a.label db ≡ Some i

-- the frame at a place, if that is below the limit
abbrev pub frame_below : List Frame → ℕ → Option ℕ → Option Frame
frame_below frames limit None = None
frame_below frames limit (Some place) = if nat_lt place limit then slice_get frames place else None

-- the first if there is one, else the second
abbrev pub first_of_two : Option ℕ → Option ℕ → Option ℕ
first_of_two None o = o
first_of_two (Some n) o = Some n

-- what is found among some places: nothing, or the first of them with a fault, counted from 1, and the fault
abbrev pub FoundAmong : Contents → (ℕ → Type 0) → Option (ℕ × ProofFault) → Type 0
FoundAmong db P None = (k : ℕ) → P k → ChecksAt db k
FoundAmong db P (Some found) =
    (k : ℕ) × P k × (found.0 ≡ k + 1) × (found.1.kind ≢ NoMemory → HasFaultAt db k found.1) × ((j : ℕ) → j < k → P j → ChecksAt db j)

-- the one with the lower place
abbrev pub earlier : Option (ℕ × ProofFault) → Option (ℕ × ProofFault) → Option (ℕ × ProofFault)
earlier None other = other
earlier (Some found) None = Some found
earlier (Some found) (Some other) = if nat_lt other.0 found.0 then Some other else Some found

-- the one with the lowest place, of what was found so far and later
abbrev pub earliest : Option (ℕ × ProofFault) → List (Option (ℕ × ProofFault)) → Option (ℕ × ProofFault)
earliest found [] = found
earliest found (other ∷ later) = earliest (earlier found other) later
