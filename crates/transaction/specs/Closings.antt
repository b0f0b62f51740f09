-- What a library in running words leaves at its end.
use Rattle.std.specs.Prelude.{◌≡◌, ◌≤◌, ◌^◌, ℕ, List, length, map, min, All, Vec}
use Rattle.std.specs.declared.alloc.Global.{Global}
use Rattle.library.specs.declared.command.Command.{Command}
use Rattle.tlwords.specs.Closing.{ClosesAll}
use Rattle.lawful.specs.Lawful.{setting_given, library_terms}
use Rattle.lending.specs.Lent.{Pass}
use Rattle.transaction.specs.declared.closing.ClosedLibrary.{ClosedLibrary}
use Rattle.transaction.specs.declared.closing.StoreWords.{StoreWords}
use Rattle.transaction.specs.declared.closing.StoreWords.TheVariants.{Whole, UpToTail}
use Rattle.transaction.specs.declared.outcome.Outcome.{Outcome}
use Rattle.transaction.specs.declared.outcome.Record.{Record}
use Rattle.transaction.specs.Members.{Home, Member, IsMember}

-- what the passes of sessions know
abbrev pub passes_of : List Member → List Pass
passes_of members = map (λ m. m.known) members

-- the items of each
abbrev pub lists_of : {A : Type 0} → List (Vec A Global) → List (List A)
lists_of rows = map (λ row. row.items) rows

-- one outcome for each transaction of a script
abbrev pub HasOutcomes : List (List Command) → List Outcome → Type 0
HasOutcomes script outcomes = length outcomes ≡ length script

-- the words are those of the library at its end, into whose history grows what each of these sessions had seen; and these are their records
pub record IsClosed (home : Home) (members : List Member) (closed : ClosedLibrary) : Type 0 where
  pub given : closed.given ≡ home.given
  pub prelude : closed.prelude ≡ (setting_given home.given).prelude
  pub words : ClosesAll library_terms home.given home.words.base home.store home.sessions (passes_of members) closed.words
  pub room : closed.words.room ≡ home.words.room
  pub small : home.words.room ≤ 2 ^ 24
  -- what is so of each session: each number that it drew has its record
  pub members_are : All IsMember members
  pub records : lists_of closed.records.items ≡ map (λ m. m.records) members

-- ---- of the code's inside

-- how many words of the store are given, of a tail and a room: all, or those up to the tail
abbrev pub words_given : StoreWords → ℕ → ℕ → ℕ
words_given Whole tail room = room
words_given UpToTail tail room = min tail room

-- the passes and the records of sessions
pub record AreTaken (members : List Member) (passes : List Pass) (records : List (Vec Record Global)) : Type 0 where
  pub members_are : All IsMember members
  pub passes_are : passes ≡ passes_of members
  pub records_are : lists_of records ≡ map (λ m. m.records) members
