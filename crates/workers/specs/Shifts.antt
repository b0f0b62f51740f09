-- Of the code's inside, apart from the rules: what one worker does with its session.
use Rattle.std.specs.Prelude.{◌≡◌, ◌≢◌, ℕ, List, [], ◌∷◌, ◌++◌, true, Some, All, IsPermutation, flat_map, length, map, slice_get}
use Rattle.std.specs.List.Sorted.{IsStrictlyIncreasing}
use Rattle.library.specs.declared.command.Command.{Command}
use Rattle.claims.specs.Claims.{Counting, Claimant, IsClaimantOf, up_to}
use Rattle.transaction.specs.declared.outcome.Outcome.{Outcome}
use Rattle.transaction.specs.Members.{Member, IsSoundMember}
use Rattle.workers.specs.declared.shift.Row.{Row}
use Rattle.workers.specs.declared.shift.Shift.{Shift}
use Rattle.workers.specs.declared.team.ShiftOf.{ShiftOf}
use Rattle.workers.specs.Works.{SubmitsAll}

-- the session runs the scripts with these indexes, from 0, one after another
abbrev pub RunsAll : List (List (List Command)) → Member → Member → List Row → Type 0
RunsAll scripts old new [] = new ≡ old
RunsAll scripts old new (row ∷ rows) =
    (mid : Member) × (script : List (List Command)) × (slice_get scripts row.script ≡ Some script)
    × SubmitsAll script old mid row.outcomes.items × RunsAll scripts mid new rows

-- the session runs the script with this index, and what became of it is put behind the other rows
abbrev pub RunsNext : List (List (List Command)) → (index : ℕ) → Member → Member → List Row → List Row → Type 0
RunsNext scripts index old new rows after =
    (row : Row) × (row.script ≡ index) × (after ≡ rows ++ row ∷ [])
    × ((script : List (List Command)) × (slice_get scripts index ≡ Some script) × SubmitsAll script old new row.outcomes.items)

-- what a worker does: its session runs the scripts that it claims, in this order, until it is told that there are no more
pub record IsShift (scripts : List (List (List Command))) (session : Member) (claimant : Claimant) (after : Member) (last : Claimant)
    (rows : List Row) : Type 0 where
  pub runs : RunsAll scripts session after rows
  pub stands : IsSoundMember after
  pub table : last.table ≡ claimant.table
  pub count : last.count ≡ claimant.count
  pub claimed : last.claimed ≡ claimant.claimed ++ map (λ row. row.script) rows
  pub rises : IsStrictlyIncreasing (map (λ row. row.script) rows)
  pub ended : last.ended ≡ true

-- what it did where memory was wanting: its session ran all scripts that it had claimed but the last, in this order, each of them to its
-- end, and submitted nothing of the last
pub record IsCutOff (scripts : List (List (List Command))) (session : Member) (claimant : Claimant) (after : Member) (last : Claimant)
    (rows : List Row) : Type 0 where
  pub runs : RunsAll scripts session after rows
  pub left : ℕ
  pub claimed : last.claimed ≡ claimant.claimed ++ (map (λ row. row.script) rows ++ left ∷ [])

-- each worker does, with these sessions and claimants
abbrev pub AreShifts : List (List (List Command)) → List Member → List Claimant → List Shift → Type 0
AreShifts scripts [] [] [] = Unit {0}
AreShifts scripts (m ∷ ms) (c ∷ cs) (s ∷ ss) = IsShift scripts m c s.session s.claimant s.rows.items × AreShifts scripts ms cs ss
AreShifts scripts _ _ _ = ⊥

-- ---- threads

-- each promises a shift of its session and its claimant
abbrev pub ArePromised : List (List (List Command)) → List Member → List Claimant → List ShiftOf → Type 0
ArePromised scripts [] [] [] = Unit {0}
ArePromised scripts (m ∷ ms) (c ∷ cs) (p ∷ ps) =
    (p.scripts.now ≡ scripts) × (p.session.value ≡ m) × (p.claimant.value ≡ c) × ArePromised scripts ms cs ps
ArePromised scripts _ _ _ = ⊥

-- the shift is the one that is promised
abbrev pub IsKept : ShiftOf → Shift → Type 0
IsKept p s = IsShift p.scripts.now p.session.value p.claimant.value s.session s.claimant s.rows.items

-- ---- all shifts together

-- so many claimants, all of these numbers, claimed the scripts that were run, until they were told that there are no more
pub record AreWhole (numbers : Counting) (shifts : List Shift) : Type 0 where
  pub some : shifts ≢ []
  pub all : length shifts ≡ numbers.claimants
  pub own : All (λ s. IsClaimantOf numbers s.claimant) shifts
  pub ended : All (λ s. s.claimant.ended ≡ true) shifts
  pub claimed : All (λ s. s.claimant.claimed ≡ map (λ row. row.script) s.rows.items) shifts

-- the sessions, in order; and the outcomes of the rows, in the order of the scripts, each of which was run once
pub record AreCollected (count : ℕ) (shifts : List Shift) (outcomes : List (List Outcome)) (sessions : List Member) : Type 0 where
  pub sessions_are : sessions ≡ map (λ s. s.session) shifts
  pub rows : List Row
  pub same : IsPermutation (flat_map (λ s. s.rows.items) shifts) rows
  pub each : map (λ row. row.script) rows ≡ up_to count
  pub outcomes_are : outcomes ≡ map (λ row. row.outcomes.items) rows
