-- Of the code's inside, apart from the rules: those who check the assertions of a source beside one another.
use Rattle.std.specs.Prelude.{◌≡◌, ◌≤◌, ℕ, List, length, take, slice_get, Option, None, Some, true}
use Rattle.derivation.specs.declared.fault.ProofFault.{ProofFault}
use Rattle.ranges.specs.Ranges.{Has}
use Rattle.claims.specs.Claims.{Counting, Claimant, IsClaimantOf, IsNewOf}
use Rattle.source.specs.Scopes.{Assertion}
use Rattle.verifying.specs.Verifies.{IsVerified}
use Rattle.sourceframes.specs.declared.frame.Frame.{Frame}
use Rattle.sourceframes.specs.declared.table.Table.{Table}
use Rattle.sourcecheck.specs.declared.checkers.Checker.{Checker}
use Rattle.sourceframes.specs.Names.{words_of, IsSound, Lasts}
use Rattle.sourceframes.specs.Frames.{AreFrames}
use Rattle.sourcecheck.specs.Shown.{IsFaultOfAssertion}
use Rattle.sourcecheck.specs.Found.{FoundAmong}

-- the assertion at a place is verified, or has the fault, or its proof is too long; of want of memory nothing is said
abbrev pub PassesAt : List Assertion → ℕ → Type 0
PassesAt xs k = (x : Assertion) → slice_get xs k ≡ Some x → IsVerified (take k xs) x

abbrev pub FailsAt : List Assertion → ℕ → ProofFault → Type 0
FailsAt xs k f = (x : Assertion) → slice_get xs k ≡ Some x → IsFaultOfAssertion (take k xs) x f

abbrev pub IsFoundAmong : List Assertion → (ℕ → Type 0) → Option (ℕ × ProofFault) → Type 0
IsFoundAmong xs P found = FoundAmong (PassesAt xs) (FailsAt xs) P found

-- the numbers of words are those of the frames
pub record Knows (xs : List Assertion) (fs : List Frame) (t : Table) : Type 0 where
  pub sound : IsSound t
  pub many : length xs ≤ length fs
  pub frames : Lasts (words_of t) (λ name. AreFrames name xs fs)

-- the checker with this claimant, who found nothing yet
abbrev pub checker_of : Claimant → Checker
checker_of c = record { claimant = c; found = None }

-- it is one of these numbers', and has claimed and found nothing yet
abbrev pub IsReady : Counting → Checker → Type 0
IsReady home c = IsNewOf home c.claimant × (c.found ≡ None)

-- it was told that all places are claimed, and found the first fault among those that it claimed
pub record HasChecked (xs : List Assertion) (home : Counting) (c : Checker) : Type 0 where
  pub own : IsClaimantOf home c.claimant
  pub ended : c.claimant.ended ≡ true
  pub found : IsFoundAmong xs (λ k. Has k c.claimant.claimed) c.found
