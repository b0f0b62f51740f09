-- What the conflict of one transaction says of another, by the footprints of the two.
use Rattle.std.specs.Prelude.{◌≡◌, ◌≢◌, ◌⊎◌, ℕ, suc, ◌/◌, List, ◌++◌}
use Rattle.library.specs.declared.command.Command.{Command}
use Rattle.library.specs.declared.command.Reply.{Reply}
use Rattle.ranges.specs.Ranges.{Has}
use Rattle.tlwords.specs.Seen.{Seen}
use Rattle.lawful.specs.declared.notes.Given.{Given}
use Rattle.lawful.specs.declared.notes.Note.{Note}
use Rattle.transaction.specs.Meeting.{Met, conflict_of}
use Rattle.transaction.specs.declared.outcome.Outcome.{Outcome}
use Rattle.transaction.specs.declared.outcome.Outcome.TheVariants.{Committed}
use Rattle.transaction.specs.Members.{Member}
use Rattle.transaction.specs.Attempts.{Attempts, Submits}
use Rattle.transaction.specs.Footprints.{MayReadAfter, MayWriteAfter, IsLaterHistory}

-- over whichever fronts of the history the two stand, the one may write no cell that the other may read
abbrev pub MeetNowhere : Given → List ℕ → Seen Note → List Command → List Command → Type 0
MeetNowhere g base seen ones others = (k l cell : ℕ) → MayWriteAfter g base seen k ones cell → MayReadAfter g base seen l others cell → ⊥

-- a session has tried the transaction, once or until it met no conflict, and this became of it
abbrev pub HasTried : List Command → Member → Member → Outcome → Type 0
HasTried cs old new o = Attempts cs old new o ⊎ Submits cs old new o

-- a session met this conflict in the transaction: in its one try, or in one of those before the last
abbrev pub RunsInto : List Command → Member → Member → Met → Type 0
RunsInto cs old new met = Attempts cs old new (conflict_of met) ⊎ ((o : Outcome) × (tries : Submits cs old new o) × Has met tries.met)

-- ---- versions

-- a session has committed the one transaction with this number, another session of the library met this conflict in the other, and
-- this is a later history of it than what either had seen then
pub record AreMet (ones others : List Command) (number : ℕ) (met : Met) (by : Member) (seen : Seen Note) : Type 0 where
  pub one_before : Member
  pub one : Member
  pub replies : List Reply
  pub committed : HasTried ones one_before one (Committed number replies)
  pub before : Member
  pub conflicted : RunsInto others before by met
  pub home : one.known.home ≡ by.known.home
  pub one_later : IsLaterHistory by.given by.known.home.base one.known.seen seen
  pub later : IsLaterHistory by.given by.known.home.base by.known.seen seen

-- where the version that the conflict found is the number of the one, both meet in its cell: the one may write it, over the library before
-- its number, and the other may read it, over the library at its place
abbrev pub ConflictsMeet : Type 0
ConflictsMeet =
    (ones others : List Command) (number : ℕ) (met : Met) (by : Member) (seen : Seen Note) → AreMet ones others number met by seen
    → met.word / 2 ≡ number
    → (i : ℕ) × (number ≡ suc i) × MayWriteAfter by.given by.known.home.base seen i ones met.cell
    × MayReadAfter by.given by.known.home.base seen met.place others met.cell

-- so where they are apart, it isn't
abbrev pub ApartIsNoCause : Type 0
ApartIsNoCause =
    (ones others : List Command) (number : ℕ) (met : Met) (by : Member) (seen : Seen Note) → AreMet ones others number met by seen
    → MeetNowhere by.given by.known.home.base seen ones others → met.word / 2 ≢ number

-- ---- locks

-- a session has run the one transaction, whatever came of it, and has locked these cells for it; another session of the library met this
-- conflict in the other; and this is a later history of it than what either had seen then
pub record AreBeside (ones others : List Command) (cells : List ℕ) (met : Met) (by : Member) (seen : Seen Note) : Type 0 where
  pub one_before : Member
  pub one : Member
  pub outcome : Outcome
  pub ran : HasTried ones one_before one outcome
  pub locked : one.known.locked ≡ cells ++ one_before.known.locked
  pub before : Member
  pub conflicted : RunsInto others before by met
  pub home : one.known.home ≡ by.known.home
  pub one_later : IsLaterHistory by.given by.known.home.base one.known.seen seen
  pub later : IsLaterHistory by.given by.known.home.base by.known.seen seen

-- where the one has locked the cell of the conflict, both meet in it: the one may write it, over the library at the place of one of its
-- runs, and the other may read it, over the library at its place
abbrev pub LocksMeet : Type 0
LocksMeet =
    (ones others : List Command) (cells : List ℕ) (met : Met) (by : Member) (seen : Seen Note) → AreBeside ones others cells met by seen
    → Has met.cell cells
    → ((place : ℕ) × MayWriteAfter by.given by.known.home.base seen place ones met.cell)
    × MayReadAfter by.given by.known.home.base seen met.place others met.cell

-- so where they are apart, it has never locked it
abbrev pub ApartLocksNone : Type 0
ApartLocksNone =
    (ones others : List Command) (cells : List ℕ) (met : Met) (by : Member) (seen : Seen Note) → AreBeside ones others cells met by seen
    → MeetNowhere by.given by.known.home.base seen ones others → Has met.cell cells → ⊥
