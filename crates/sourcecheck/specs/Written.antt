-- How many symbols the steps of a proof write down, of which a proof may have 2^28: a limit of the program and not of the rules.
use Rattle.std.specs.Prelude.{◌≡◌, ℕ, ◌+◌, ◌<◌, ◌^◌, List, [], ◌∷◌, length, Option, Some, None, Ok, Err}
use Rattle.source.specs.Scopes.{Assertion}
use Rattle.source.specs.Statements.{Proof}
use Rattle.source.specs.Proofs.{Stack, Step, names, empty, steps_of, stepped}
use Rattle.verifying.specs.Verifies.{Entry, entry}

abbrev pub symbols_of : Entry → ℕ
symbols_of (Ok e) = length e
symbols_of (Err kind) = 0

abbrev pub symbols_of_last : List Entry → ℕ
symbols_of_last [] = 0
symbols_of_last (e ∷ es) = symbols_of e

-- a step that names a label writes down the expression that the label puts; what is called by its number isn't written again
abbrev pub written_at : Step → Option (Stack Entry) → ℕ
written_at (names w) (Some s) = symbols_of_last s.entries
written_at _ _ = 0

-- the steps from a stack on
abbrev pub written : List Assertion → Assertion → Option (Stack Entry) → List Step → ℕ
written earlier x s [] = 0
written earlier x None (step ∷ steps) = 0
written earlier x (Some s) (step ∷ steps) =
    written_at step (stepped (entry earlier x) earlier x.active s step)
    + written earlier x (stepped (entry earlier x) earlier x.active s step) steps

-- steps write down more than 2^28 symbols
abbrev pub AreTooLong : List Assertion → Assertion → List Step → Type 0
AreTooLong earlier x steps = 2 ^ 28 < written earlier x (Some empty) steps

-- and so do those of a proof
abbrev pub IsTooLong : List Assertion → Assertion → Proof → Type 0
IsTooLong earlier x proof = (steps : List Step) × (steps_of x.hypotheses proof ≡ Some steps) × AreTooLong earlier x steps

-- an assertion has such a proof
pub record HasTooLong (earlier : List Assertion) (x : Assertion) : Type 0 where
  pub proof : Proof
  pub has : x.proof ≡ Some proof
  pub long : IsTooLong earlier x proof
