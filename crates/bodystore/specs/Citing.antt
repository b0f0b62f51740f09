-- Which slots the steps of a proof cite.
use Rattle.std.specs.Prelude.{ℕ, List, nat_eq}
use Rattle.std.specs.List.Sorted.{IsStrictlyIncreasing}
use Rattle.mmsyntax.specs.Assertions.{Distinct}
use Rattle.ranges.specs.Ranges.{Has}
use Rattle.bodystore.specs.declared.stored.StoredStep.{StoredStep}
use Rattle.bodystore.specs.declared.stored.StoredStep.TheVariants.{Slot}

-- the slots that the steps cite, each once, ascending
pub record AreCitedSlots (steps : List StoredStep) (slots : List ℕ) : Type 0 where
  pub apart : Distinct nat_eq slots
  pub cited : (i : ℕ) → Has i slots → Has (Slot i) steps
  pub all : (i : ℕ) → Has (Slot i) steps → Has i slots
  pub ascending : IsStrictlyIncreasing slots
