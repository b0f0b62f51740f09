-- Checking the assertions of a database: what each may cite, and the first fault (Metamath book, section 4.1.4: a proof names
-- assertions that stand before it).
use Rattle.std.specs.Prelude.{◌≡◌, ℕ, ◌+◌, ◌<◌, None, Some, List, [], ◌∷◌, take, slice_get, if◌then◌else◌}
use Rattle.std.specs.Str.{bytes_eq}
use Rattle.mmsyntax.specs.declared.statement.Assertion.{Assertion}
use Rattle.mmsyntax.specs.Tables.{Tables, Contents}
use Rattle.mmframes.specs.Frames.{frame}
use Rattle.derivation.specs.declared.fault.ProofFault.{ProofFault}
use Rattle.derivation.specs.Derivation.{Citable, Checks}
use Rattle.derivation.specs.Faults.{HasProofFault}

-- the frame of the first of the assertions that has the label
abbrev pub frame_in : Tables → List Assertion → Citable
frame_in p [] label = None
frame_in p (a ∷ later) label = if bytes_eq a.label label then Some (frame p a) else frame_in p later label

-- what the proof of the assertion at a place may cite: the assertions before it
abbrev pub citable_at : Contents → ℕ → Citable
citable_at db k = frame_in db.prelude (take k db.assertions)

-- the assertion at a place is an axiom, or its steps are the listing of a tree that derives its statement
abbrev pub ChecksAt : Contents → ℕ → Type 0
ChecksAt db k = (a : Assertion) → slice_get db.assertions k ≡ Some a → Checks (citable_at db k) db.prelude a

-- the assertion at a place is a theorem, and its proof has the fault
abbrev pub HasFaultAt : Contents → ℕ → ProofFault → Type 0
HasFaultAt db k fault =
    (a : Assertion) × (slice_get db.assertions k ≡ Some a) × HasProofFault (citable_at db k) db.prelude a fault

-- each theorem checks over the assertions before it
abbrev pub AllCheck : Contents → Type 0
AllCheck db = (k : ℕ) → ChecksAt db k

-- i is the first assertion with a fault, counted from 1, and this is its fault
abbrev pub IsFirstFault : Contents → ℕ → ProofFault → Type 0
IsFirstFault db i fault = (k : ℕ) × (i ≡ k + 1) × HasFaultAt db k fault × ((j : ℕ) → j < k → ChecksAt db j)
