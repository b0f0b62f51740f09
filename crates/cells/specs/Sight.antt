-- What a run has seen of the cells and of the store, what it keeps aside, and the states that this leaves possible.
use Rattle.std.specs.Prelude.{◌≡◌, ◌≢◌, ℕ, ◌+◌, ◌≤◌, ◌==◌, ◌⊎◌, if◌then◌else◌, List, Bool, true, Option, Some, None, length}
use Rattle.std.specs.FinMap.{get, insert}
use Rattle.library.specs.declared.library.Ranked.{Ranked}
use Rattle.library.specs.Library.{Setting, Verifies}
use Rattle.ranges.specs.Pairs.{Pairs, written}
use Rattle.ranges.specs.Ranges.{Range, Has, Within, Names, AreOfOneStore}
use Rattle.ranges.specs.declared.range.Range.{Range as Span}
use Rattle.bodystore.specs.Stages.{Staged}
use Rattle.cells.specs.declared.halt.Halt.{Halt}
use Rattle.cells.specs.declared.halt.Halt.TheVariants.{Conflict, StoreFull, NoMemory}
use Rattle.cells.specs.State.{State, FitsReads, with_writes, most_words}
use Rattle.cells.specs.Slots.{is_ranged}
use Rattle.cells.specs.Shows.{Shows}

-- what the run began with, which tells it from every other; the setting of the library; whether it may keep values aside, and whether it
-- may stage words; the finished ranges that it knows, what it has read from cells, what it keeps aside for cells, how many words of the
-- store were taken by it and by those before it, how many words the store has room for, which words have a range that was staged since the
-- last Committed, with where it starts, the cell whose read stopped the run, if one did, and whether the store had no room for words that
-- the run was to stage
pub record Sight (O : Type 0) : Type 0 where
  pub origin : O
  pub setting : Setting
  pub may_write : Bool
  pub may_stage : Bool
  pub ranges : List Range
  pub reads : Pairs
  pub writes : Pairs
  pub taken : ℕ
  pub room : ℕ
  pub staged : Staged
  pub halted : Option ℕ
  pub full : Bool

-- what never changes in a run
pub record Fixed (O : Type 0) : Type 0 where
  pub origin : O
  pub setting : Setting
  pub may_write : Bool
  pub may_stage : Bool
  pub room : ℕ

abbrev pub fixed_of : {O : Type 0} → Sight O → Fixed O
fixed_of s = record { origin = s.origin; setting = s.setting; may_write = s.may_write; may_stage = s.may_stage; room = s.room }

-- the cell was read
abbrev pub WasRead : {O : Type 0} → Sight O → ℕ → Type 0
WasRead s c = (v : ℕ) × Has (c, v) s.reads

-- the cell was asked for: it was read, or its read stopped the run
abbrev pub WasAsked : {O : Type 0} → Sight O → ℕ → Type 0
WasAsked s c = WasRead s c ⊎ (s.halted ≡ Some c)

-- a value is kept aside for the cell
abbrev pub WasWritten : {O : Type 0} → Sight O → ℕ → Type 0
WasWritten s c = (v : ℕ) × (written c s.writes ≡ Some v)

-- the state may be the one under the run: it has the ranges, all of one store, and agrees with what was read
pub record Matches {O : Type 0} (s : Sight O) (st : State) : Type 0 where
  pub store : AreOfOneStore most_words st.ranges
  pub has : Within s.ranges st.ranges
  pub reads : FitsReads st s.reads

-- what the run makes of a state
abbrev pub after : {O : Type 0} → Sight O → State → State
after s st = with_writes st s.writes

-- the state may be the one under the run, and shows a library that verifies
pub record Suits {O : Type 0} (s : Sight O) (st : State) (lib : List Ranked) : Type 0 where
  pub matches : Matches s st
  pub shows : Shows s.setting.slots st lib
  pub verifies : Verifies s.setting lib

-- the state may be the one under the run, and with what the run keeps aside it shows a library that verifies
pub record Views {O : Type 0} (s : Sight O) (st : State) (lib : List Ranked) : Type 0 where
  pub matches : Matches s st
  pub shows : Shows s.setting.slots (after s st) lib
  pub verifies : Verifies s.setting lib

-- ---- what is so of all states that may be under the run

-- of each of them, with what the run keeps aside
abbrev pub ForEachState : {O : Type 0} → Sight O → (State → Type 0) → Type 0
ForEachState s told = (st : State) → Matches s st → told (after s st)

-- and of what calls made of it: with what the run kept aside before, and with what it keeps aside now
abbrev pub Turns : {O : Type 0} → Sight O → Sight O → (State → State → Type 0) → Type 0
Turns old new told = (st : State) → Matches new st → told (after old st) (after new st)

-- all cells but this one are as they were
abbrev pub KeepsOthers : {O : Type 0} → ℕ → Sight O → Sight O → Type 0
KeepsOthers cell old new = (st : State) (c : ℕ) → c ≢ cell → (after new st).value c ≡ (after old st).value c

-- ---- what the calls of a run do to its sight

-- what was staged is staged still
abbrev pub StaysStaged : Staged → Staged → Type 0
StaysStaged old new = (words : List ℕ) (start : ℕ) → get old words ≡ Some start → get new words ≡ Some start

-- it is the same run, and nothing that was read, seen, written or staged is lost
pub record Onward {O : Type 0} (old new : Sight O) : Type 0 where
  pub fixed : fixed_of new ≡ fixed_of old
  pub ranges : Within old.ranges new.ranges
  pub reads : (st : State) → FitsReads st new.reads → FitsReads st old.reads
  pub read : (c : ℕ) → WasRead old c → WasRead new c
  pub written : (c : ℕ) → WasWritten old c → WasWritten new c
  pub taken : old.taken ≤ new.taken
  pub staged : StaysStaged old.staged new.staged

-- no cell was asked for but those that were before, and those of which this is so
pub record ReadsWithin {O : Type 0} (such : ℕ → Type 0) (old new : Sight O) : Type 0 where
  pub asked : (c : ℕ) → WasAsked new c → WasAsked old c ⊎ such c

-- and none at all
pub record ReadsNothing {O : Type 0} (old new : Sight O) : Type 0 where
  pub asked : (c : ℕ) → WasAsked new c → WasAsked old c

-- at most so many words of the store were taken
abbrev pub TakesAtMost : {O : Type 0} → ℕ → Sight O → Sight O → Type 0
TakesAtMost count old new = new.taken ≤ old.taken + count

-- and what is kept aside and what is staged stays the same, and no word of the store was taken
pub record Looks {O : Type 0} (old new : Sight O) : Type 0 where
  pub onward : Onward old new
  pub writes : new.writes ≡ old.writes
  pub taken : new.taken ≡ old.taken
  pub staged : new.staged ≡ old.staged

-- the cell was read, with this value: that of every state that may be the one under the run, with what the run keeps aside
pub record Reads {O : Type 0} (cell v : ℕ) (old new : Sight O) : Type 0 where
  pub looks : Looks old new
  pub value : (st : State) → Matches new st → v ≡ (after new st).value cell
  pub read : WasRead new cell
  pub named : is_ranged old.setting.slots cell ≡ true → Names new.ranges v

-- the value is kept aside for the cell
pub record Writes {O : Type 0} (cell v : ℕ) (old new : Sight O) : Type 0 where
  pub fixed : fixed_of new ≡ fixed_of old
  pub ranges : new.ranges ≡ old.ranges
  pub reads : new.reads ≡ old.reads
  pub taken : new.taken ≡ old.taken
  pub writes : (c : ℕ) → written c new.writes ≡ (if c == cell then Some v else written c old.writes)
  pub staged : new.staged ≡ old.staged
  pub halted : new.halted ≡ old.halted

-- the words had this range: it is taken again, and no word of the store
pub record TakesAgain {O : Type 0} (start : ℕ) (range : Span) (old new : Sight O) : Type 0 where
  pub start_is : range.start ≡ start
  pub taken : new.taken ≡ old.taken
  pub staged : new.staged ≡ old.staged

-- the words had none: just they are taken, and the range is staged besides, if there is memory for it and the cells keep what is staged
pub record TakesAnew {O : Type 0} (words : List ℕ) (range : Span) (old new : Sight O) : Type 0 where
  pub taken : new.taken ≡ old.taken + length words
  pub staged : (new.staged ≡ old.staged) ⊎ (new.staged ≡ insert old.staged words range.start)

-- the words are those of a finished range: one that was staged, where there was one, else a new one
pub record Stages {O : Type 0} (words : List ℕ) (range : Span) (old new : Sight O) : Type 0 where
  pub onward : Onward old new
  pub writes : new.writes ≡ old.writes
  pub finished : Has (record { start = range.start; words = words }) new.ranges
  pub len : range.len ≡ length words
  pub again : (start : ℕ) → get old.staged words ≡ Some start → TakesAgain start range old new
  pub anew : get old.staged words ≡ None → TakesAnew words range old new

-- the halt has its cause in the run: a read of it met another session, or the store had no room for words that it was to stage. Memory may
-- run out anywhere
abbrev pub IsCaused : {O : Type 0} → Sight O → Halt → Type 0
IsCaused s Conflict = (cell : ℕ) × (s.halted ≡ Some cell)
IsCaused s StoreFull = s.full ≡ true
IsCaused s NoMemory = Unit {0}

-- the range is one that the run knows, with these words
pub record KnowsRange {O : Type 0} (s : Sight O) (range : Span) (words : List ℕ) : Type 0 where
  pub finished : Has (record { start = range.start; words = words }) s.ranges
  pub len : range.len ≡ length words
