-- What becomes of a source with edits: its text then, or why it has none.
use Rattle.std.specs.Prelude.{◌<◌, ℕ, List, length}
use Rattle.giving.specs.Staying.{Change}
use Rattle.items.specs.Bare.{HasBare}
use Rattle.arranging.specs.declared.call.Outcome.{Outcome}
use Rattle.arranging.specs.declared.call.Outcome.TheVariants.{Text, Misplaced, Bare}
use Rattle.arranging.specs.Parts.{Edited}
use Rattle.arranging.specs.Arranged.{IsArranged}

-- something that is put in can't stand at its place, or an assertion without a proof is to have another one
abbrev pub IsOutcome : List Change → List Change → Edited → List ℕ → Outcome → Type 0
IsOutcome cs proofs e source (Text out) = IsArranged cs proofs e source out.items
IsOutcome cs proofs e source (Misplaced number) = number < length e.comings
IsOutcome cs proofs e source Bare = HasBare proofs source
