-- Of the code's inside, apart from the rules: a run on a library's words as commands see it, and what is so of it at all times.
use Rattle.std.specs.Prelude.{◌≡◌, ℕ, ◌+◌, ◌/◌, ◌<◌, ◌≤◌, Bool, true, false, is_some, Option, Some, None, List, [], ◌∷◌, length}
use Rattle.std.specs.Coded.{Coded, coded_ℕ, coded_list}
use Rattle.std.specs.FinMap as map
use Rattle.std.specs.Option.{option_map}
use Rattle.tlcore.specs.History.{IsVersionOf}
use Rattle.ranges.specs.Ranges.{Has, Names}
use Rattle.ranges.specs.Pairs.{Pairs, written}
use Rattle.tlwords.specs.declared.mode.Mode.{Mode}
use Rattle.tlwords.specs.declared.mode.Mode.TheVariants.{Reading, Writing}
use Rattle.tlwords.specs.declared.outcome.Conflict.{Conflict}
use Rattle.tlwords.specs.Seen.{SeenGrows}
use Rattle.tlwords.specs.Known.{Known, Going, Stands, word_told}
use Rattle.tlwords.specs.Runs.{word_seen, value_kept, was_read, HasCause}
use Rattle.tlwords.specs.Commits.{writes_kept}
use Rattle.bodystore.specs.Stages.{Staged, AreStaged}
use Rattle.library.specs.declared.library.Ranked.{Ranked}
use Rattle.cells.specs.State.{State}
use Rattle.cells.specs.Slots.{is_ranged}
use Rattle.cells.specs.Sight.{Sight, WasRead, Suits}
use Rattle.lawful.specs.declared.notes.Given.{Given}
use Rattle.lawful.specs.declared.notes.Note.{Note}
use Rattle.lawful.specs.Lawful.{setting_given, library_terms}
use Rattle.lawful.specs.Laws.{IsPassOn}

-- what a pass of a library knows
abbrev pub Pass : Type 0
Pass = Known Given Note

-- what the first staging of a pass that was refused found is known from then on
abbrev pub FullStays : Pass → Pass → Type 0
FullStays old new = (found : ℕ × ℕ) → old.full ≡ Some found → new.full ≡ Some found

-- where a staging of the pass was refused, the tail that the first of these found and the number of its words exceed the room
abbrev pub ExceedsRoom : Pass → Type 0
ExceedsRoom k = (tail count : ℕ) → k.full ≡ Some (tail, count) → k.home.room < tail + count

-- what a run takes along, and gives back at its end: what its pass knows, what was staged for it since its last Committed, and whether the
-- store had no room for words that the run was to stage
pub record Carried : Type 0 where
  pub pass : Pass
  pub staged : Staged
  pub lacked_room : Bool

-- the values of what is staged are told apart as maps of lists of numbers
abbrev pub staged_code : Coded Staged
staged_code = map.code (coded_list coded_ℕ) coded_ℕ

-- a run: what its pass knew at the beginning, the run as it goes, whether it may stage words, whether the store had no room for some, and
-- what is staged
pub record Lending : Type 0 where
  pub given : Given
  pub began : Pass
  pub going : Going Given Note
  pub may_stage : Bool
  pub full : Bool
  pub staged : Staged

abbrev pub is_writing : Mode → Bool
is_writing Reading = false
is_writing Writing = true

-- what commands see of it
abbrev pub lent_sight : Lending → Sight Pass
lent_sight l =
    record {
      origin = l.began;
      setting = setting_given l.given;
      may_write = is_writing l.going.mode;
      may_stage = l.may_stage;
      ranges = l.going.known.seen.ranges;
      reads = l.going.reads;
      writes = writes_kept l.going.slots;
      taken = l.going.known.taken;
      room = l.going.known.home.room;
      staged = l.staged;
      halted = option_map (λ (k : Conflict). k.cell) l.going.over;
      full = l.full;
    }

-- some state that shows a library that verifies agrees with all that the run has seen
abbrev pub AgreesWithSome : Lending → Type 0
AgreesWithSome l = (st : State) × (lib : List Ranked) × Suits (lent_sight l) st lib

-- a run that commands may be given: at all times it agrees with some state
pub record Lent : Type 0 where
  pub run : Lending
  pub agrees : ∥ AgreesWithSome run ∥₁

-- the word that the last look found, if there was one, is no conflict of a run at the place: it shows the lock free, and a version up to
-- there, and it is the one under which the newest read of the cell ended
abbrev pub FindsNone : ℕ → Option (ℕ × ℕ) → Pairs → Type 0
FindsNone place looked found =
    (c word : ℕ) → looked ≡ Some (c, word) → (HasCause place word → ⊥) × (written c found ≡ Some word)

-- the run has met this conflict by a read. The word before is the one that its newest read of the cell found; a run that only reads tells
-- none
pub record HasMet (met : Conflict) (g : Going Given Note) : Type 0 where
  pub looked : g.known.looked ≡ Some (met.cell, met.word)
  pub written : IsVersionOf g.known.seen.history met.cell (met.word / 2)
  pub cause : HasCause g.place met.word
  pub before : met.before ≡ word_told g.mode met.cell g.known.found

-- what is so of the run at all times: of its pass nothing is lost or added since it began but what it has seen, its load of the clock,
-- which found its place, its looks, its reads and its stagings
pub record IsLent (l : Lending) (stage : Staged) (over : Option Conflict) : Type 0 where
  pub on : IsPassOn l.given l.began
  pub since : l.going.known ≡ record l.began {
    seen = l.going.known.seen;
    clocks = l.going.place ∷ l.began.clocks;
    looked = l.going.known.looked;
    found = l.going.known.found;
    full = l.going.known.full;
    taken = l.going.known.taken;
    added = l.going.known.added;
  }
  pub grows : SeenGrows l.began.seen l.going.known.seen
  pub placed : length l.began.seen.history ≤ l.going.place
  pub stands : Stands library_terms l.going
  -- a run that only reads notes nothing of what it read
  pub unnoted : l.going.mode ≡ Reading → (c : ℕ) → word_seen l.going.slots c ≡ None
  -- what is kept aside is of cells that were read, and in range cells it names finished ranges
  pub read : l.going.mode ≡ Writing → (c : ℕ) → WasRead (lent_sight l) c → was_read l.going.slots c ≡ true
  pub kept : (c : ℕ) → is_some (value_kept l.going.slots c) ≡ true → WasRead (lent_sight l) c
  pub named : (c v : ℕ) → Has (c, v) (writes_kept l.going.slots) → is_ranged l.given.slots c ≡ true → Names l.going.known.seen.ranges v
  pub staged : AreStaged l.going.known.seen.ranges stage
  pub over_is : l.going.over ≡ over
  pub met : (k : Conflict) → over ≡ Some k → HasMet k l.going
  pub clear : over ≡ None → FindsNone l.going.place l.going.known.looked l.going.known.found
  pub full : l.full ≡ true → (is_some l.going.known.full ≡ true) × (l.may_stage ≡ true)
  pub unrefused : l.full ≡ false → l.going.known.full ≡ l.began.full
  pub full_stays : FullStays l.began l.going.known
  pub exceeds : ExceedsRoom l.began → ExceedsRoom l.going.known

-- so with some stage, and with the conflict that ended the run, if one did
abbrev pub IsLending : Lending → Type 0
IsLending l = (stage : Staged) × (over : Option Conflict) × IsLent l stage over

-- a run that was just begun on what it takes along
pub record Lends (g : Given) (k : Carried) (mode : Mode) (may_stage : Bool) (l : Lending) : Type 0 where
  pub given : l.given ≡ g
  pub began : l.began ≡ k.pass
  pub mode_is : l.going.mode ≡ mode
  pub may : l.may_stage ≡ may_stage
  pub blank : writes_kept l.going.slots ≡ []
  -- it has read nothing, and met no conflict
  pub unread : l.going.reads ≡ []
  pub unmet : l.going.over ≡ None
  -- and no staging of it was refused
  pub unrefused : l.full ≡ false
  pub taken : l.going.known.taken ≡ k.pass.taken
  pub staged : l.staged ≡ k.staged
