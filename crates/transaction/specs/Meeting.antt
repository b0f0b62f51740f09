-- Where a run met another session, and the outcomes that tell it, or a refusal, as one value.
use Rattle.std.specs.Prelude.{ℕ, Option}
use Rattle.library.specs.declared.reason.Refused.{Refused as Refusal}
use Rattle.tlwords.specs.declared.outcome.Conflict.{Conflict}
use Rattle.transaction.specs.declared.outcome.Outcome.{Outcome}
use Rattle.transaction.specs.declared.outcome.Outcome.TheVariants as outcome
use Rattle.transaction.specs.declared.outcome.Look.{Look}
use Rattle.transaction.specs.declared.outcome.Look.TheVariants as look

-- the place of the run, the cell, the lock word that was found there, and the one that the run's newest read of the cell had found
pub record Met : Type 0 where
  pub place : ℕ
  pub cell : ℕ
  pub word : ℕ
  pub before : Option ℕ

-- the conflict of a run on the words, with the place of the run
abbrev pub met_at : ℕ → Conflict → Met
met_at place found = record { place = place; cell = found.cell; word = found.word; before = found.before }

-- what a transaction is answered that met another session there
abbrev pub conflict_of : Met → Outcome
conflict_of met = outcome.Conflict met.place met.cell met.word met.before

-- what a look is answered that met another session there
abbrev pub look_met : Met → Look
look_met met = look.Conflict met.place met.cell met.word met.before

-- what a transaction is answered of which a command is refused, over the library after so many entries
abbrev pub refusal_of : ℕ → Refusal → Outcome
refusal_of place refused = outcome.Refused place refused.index refused.reason
