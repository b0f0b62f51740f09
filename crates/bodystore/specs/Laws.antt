-- Laws of bodies and of stages, for whoever keeps them.
use Rattle.std.specs.Prelude.{◌≡◌, ◌≢◌, ℕ, Some, List, [], length}
use Rattle.std.specs.Option.{option_map}
use Rattle.std.specs.FinMap.{empty, get, insert}
use Rattle.ranges.specs.declared.range.Range.{Range as Span}
use Rattle.ranges.specs.Ranges.{Range, Has, Within}
use Rattle.mmsyntax.specs.Tables.{Tables}
use Rattle.mmsyntax.specs.Layout.{IsSoundPrelude}
use Rattle.mmsyntax.specs.Assertions.{Fits}
use Rattle.mmsyntax.specs.declared.statement.Assertion.{Assertion}
use Rattle.bodystore.specs.declared.statement.Statement.{Statement}
use Rattle.bodystore.specs.declared.stored.StoredStep.{StoredStep}
use Rattle.bodystore.specs.Bodies.{statement_body, statement_of, proof_body, IsSmallStatement}
use Rattle.bodystore.specs.Stages.{Staged, range_at, AreStaged}

-- a statement body is of one statement
abbrev pub StatementBodiesAreOne : Type 0
StatementBodiesAreOne = (s t : Statement) → IsSmallStatement s → IsSmallStatement t → statement_body s ≡ statement_body t → s ≡ t

-- a proof body is of one list of steps
abbrev pub ProofBodiesAreOne : Type 0
ProofBodiesAreOne = (steps others : List StoredStep) → proof_body steps ≡ proof_body others → steps ≡ others

-- a statement body has words
abbrev pub StatementBodiesHaveWords : Type 0
StatementBodiesHaveWords = (s : Statement) → statement_body s ≢ []

-- so has the body of a proof that has steps
abbrev pub ProofBodiesHaveWords : Type 0
ProofBodiesHaveWords = (steps : List StoredStep) → steps ≢ [] → proof_body steps ≢ []

-- what fits a prelude that a text declares is small
abbrev pub FittingAreSmall : Type 0
FittingAreSmall = (t : Tables) (a : Assertion) → IsSoundPrelude t → Fits t a → IsSmallStatement (statement_of a)

-- staged ranges go on to be among the ranges where there are more
abbrev pub StagedGoOn : Type 0
StagedGoOn = (ranges more : List Range) (stage : Staged) → Within ranges more → AreStaged ranges stage → AreStaged more stage

-- nothing is staged at first
abbrev pub NothingIsStaged : Type 0
NothingIsStaged = (ranges : List Range) → AreStaged ranges empty

-- to note one more of the ranges keeps it
abbrev pub NotingKeepsStaged : Type 0
NotingKeepsStaged =
    (ranges : List Range) (stage : Staged) (words : List ℕ) (start : ℕ) → Has (record { start = start; words = words }) ranges
    → AreStaged ranges stage → AreStaged ranges (insert stage words start)

-- what a stage finds is one of the ranges, with just the words
abbrev pub FoundIsStaged : Type 0
FoundIsStaged =
    (ranges : List Range) (stage : Staged) (words : List ℕ) (found : Span) → AreStaged ranges stage
    → option_map (range_at words) (get stage words) ≡ Some found
    → Has (record { start = found.start; words = words }) ranges × (found.len ≡ length words)
