-- Which cells the runs of a session lock: those that the transaction may write, whatever comes of it.
--
-- A run locks what it is to write, cell by cell, at its end (TL2, section 2.2, step 3). So it may have locked cells where it committed, and
-- where it met a conflict then: at a lock that it didn't get, or in its check. What it is to write it has worked out from the library at
-- its own place, which is the one before its number only where it committed. So it is at the place that its footprint is told here.
use Rattle.std.specs.Prelude.{◌≡◌, ℕ, List, ◌++◌}
use Rattle.library.specs.declared.command.Command.{Command}
use Rattle.ranges.specs.Ranges.{Has}
use Rattle.tlwords.specs.Seen.{Seen}
use Rattle.lawful.specs.declared.notes.Given.{Given}
use Rattle.lawful.specs.declared.notes.Note.{Note}
use Rattle.lending.specs.Lent.{Pass}
use Rattle.transaction.specs.declared.outcome.Outcome.{Outcome}
use Rattle.transaction.specs.declared.outcome.Outcome.TheVariants as outcome
use Rattle.transaction.specs.Footprints.{MayWriteAfter, IsLaterHistory}

-- each of the cells is one that the transaction may write, over the library after as many entries as one of the places says
abbrev pub MayLock : Given → List ℕ → Seen Note → List Command → List ℕ → List ℕ → Type 0
MayLock g base seen cs places cells =
    (cell : ℕ) → Has cell cells → (place : ℕ) × Has place places × MayWriteAfter g base seen place cs cell

-- what the pass has locked between the two, whatever came of it: each cell is one that the transaction may write, over the library at the
-- place of one of its runs. So of what was seen then, and of each later history
pub record LocksWithin (g : Given) (cs : List Command) (old new : Pass) : Type 0 where
  -- the places of the runs, which their loads of the clock found, the newest first
  pub places : List ℕ
  pub ran : new.clocks ≡ places ++ old.clocks
  -- the cells that they have locked, the newest first
  pub cells : List ℕ
  pub locked : new.locked ≡ cells ++ old.locked
  pub within : (later : Seen Note) → IsLaterHistory g new.home.base new.seen later → MayLock g new.home.base later cs places cells

-- nothing was locked but where the run committed or met a conflict
abbrev pub LocksOnlyToCommit : Pass → Pass → Outcome → Type 0
LocksOnlyToCommit old new (outcome.Committed number replies) = Unit {0}
LocksOnlyToCommit old new (outcome.Conflict place cell word before) = Unit {0}
LocksOnlyToCommit old new _ = new.locked ≡ old.locked
