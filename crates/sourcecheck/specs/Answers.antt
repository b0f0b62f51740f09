-- Why a source isn't said to verify: its first fault, or a proof that is too long, or want of memory, of which nothing is said.
use Rattle.std.specs.Prelude.{◌≡◌, ◌<◌, ℕ, List, take, slice_get, Some}
use Rattle.mmtext.specs.Words.{Word}
use Rattle.source.specs.Scopes.{Assertion, Scope}
use Rattle.verifying.specs.Verifies.{IsVerified}
use Rattle.verifying.specs.Faults.{fault_of, fault_in}
use Rattle.sourcecheck.specs.declared.sources.Unverified.{Unverified}
use Rattle.sourcecheck.specs.declared.sources.Unverified.TheVariants as unverified
use Rattle.sourcecheck.specs.Written.{HasTooLong}

-- of the assertion at a place
abbrev pub IsRefusedAt : List Assertion → ℕ → Unverified → Type 0
IsRefusedAt xs place (unverified.Fault label fault) =
    (x : Assertion) → slice_get xs place ≡ Some x → (label.now ≡ x.label) × (fault_of (take place xs) x ≡ Some fault)
IsRefusedAt xs place (unverified.TooLong label) =
    (x : Assertion) → slice_get xs place ≡ Some x → (label.now ≡ x.label) × HasTooLong (take place xs) x
IsRefusedAt xs place unverified.NoMemory = Unit {0}

-- an assertion with this label has a proof whose steps write down more than 2^28 symbols, and each before it is verified
pub record IsStoppedBy (s : Scope) (label : Word) : Type 0 where
  pub place : ℕ
  pub assertion : Assertion
  pub stands : slice_get s.assertions place ≡ Some assertion
  pub labelled : assertion.label ≡ label
  pub long : HasTooLong (take place s.assertions) assertion
  pub verified : (k : ℕ) (x : Assertion) → k < place → slice_get s.assertions k ≡ Some x → IsVerified (take k s.assertions) x

-- of a source
abbrev pub IsRefusedIn : Scope → Unverified → Type 0
IsRefusedIn s (unverified.Fault label fault) = fault_in s ≡ Some (label.now, fault)
IsRefusedIn s (unverified.TooLong label) = IsStoppedBy s label.now
IsRefusedIn s unverified.NoMemory = Unit {0}
