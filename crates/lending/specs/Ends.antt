-- Of the code's inside, apart from the rules: how a run ends, and when a note lets it.
use Rattle.std.specs.Prelude.{◌≡◌, true, false, Some, None, []}
use Rattle.std.specs.FinMap.{empty}
use Rattle.ranges.specs.Pairs.{Pairs}
use Rattle.tlwords.specs.declared.outcome.Outcome.{Outcome}
use Rattle.tlwords.specs.declared.outcome.Outcome.TheVariants.{Committed}
use Rattle.tlwords.specs.Commits.{writes_kept}
use Rattle.bodystore.specs.Stages.{Staged}
use Rattle.lawful.specs.declared.notes.Note.{Note}
use Rattle.lawful.specs.Lawful.{Lawful}
use Rattle.lending.specs.declared.live.GivenUp.{GivenUp}
use Rattle.lending.specs.declared.live.GivenUp.TheVariants.{Conflict, StoreFull, NoMemory}
use Rattle.lending.specs.Lent.{Lending}

-- with this note, and these cells kept aside, the run is lawful
abbrev pub IsLawfulWith : Lending → Pairs → Note → Type 0
IsLawfulWith l writes n = Lawful l.given l.going.known.seen.ranges l.going.reads writes n

-- what is staged behind the end of a run: nothing where it committed, else what was staged
abbrev pub staged_after : Outcome → Staged → Staged
staged_after (Committed number) staged = empty
staged_after _ staged = staged

-- nothing is kept aside any more, and else the run is as it was
pub record IsForgotten (old new : Lending) : Type 0 where
  pub is : new ≡ record old { going = record old.going { slots = new.going.slots } }
  pub none : writes_kept new.going.slots ≡ []

-- why a run is given up: it met the conflict; or it met none, and the store had no room; or neither, so memory ran out
abbrev pub IsGivenUp : Lending → GivenUp → Type 0
IsGivenUp l (Conflict met) = l.going.over ≡ Some met
IsGivenUp l StoreFull = (l.going.over ≡ None) × (l.full ≡ true)
IsGivenUp l NoMemory = (l.going.over ≡ None) × (l.full ≡ false)
