-- Which transactions on the cells of a library are lawful: those that do what their notes say, to every library that the cells may show.
use Rattle.std.specs.Prelude.{◌≡◌, ℕ, List, [], Ok, Err, None, All, length, slice_index, true, false}
use Rattle.std.specs.FinMap.{empty}
use Rattle.library.specs.declared.library.Ranked.{Ranked}
use Rattle.library.specs.declared.command.Command.{Command}
use Rattle.library.specs.declared.command.Reply.{Reply}
use Rattle.library.specs.Library.{Setting, Verifies, opening, setting_over, ShowsInOrder}
use Rattle.library.specs.Fitting.{CommandFits}
use Rattle.library.specs.Transactions.{apply, has_edit}
use Rattle.ranges.specs.Pairs.{Pairs}
use Rattle.ranges.specs.Ranges.{Range}
use Rattle.tlwords.specs.Terms.{Terms}
use Rattle.cells.specs.State.{State, most_words}
use Rattle.cells.specs.Slots.{cell_count, is_ranged}
use Rattle.cells.specs.Shows.{Shows}
use Rattle.cells.specs.Sight.{Sight, Suits, after}
use Rattle.lawful.specs.declared.notes.Given.{Given}
use Rattle.lawful.specs.declared.notes.Note.{Note}
use Rattle.lawful.specs.declared.notes.Note.TheVariants.{Done, Refused, Looked}

-- ---- what is given

abbrev pub setting_given : Given → Setting
setting_given g = setting_over g.database.value g.slots

-- the library at the opening
abbrev pub first_library : Given → List Ranked
first_library g = opening g.database.value

-- the state of these values and ranges
abbrev pub state_of : List ℕ → List Range → State
state_of values ranges = record { value = slice_index values; ranges = ranges }

-- the opening values show the library at the opening, which verifies
pub record OpensWell (g : Given) (ranges : List Range) (values : List ℕ) : Type 0 where
  pub count : length values ≡ cell_count g.slots
  pub shows : Shows g.slots (state_of values ranges) (first_library g)
  pub verifies : Verifies (setting_given g) (first_library g)

-- ---- transactions

-- what is so of every state that may be the one under a run, and of every library that verifies and that it shows
abbrev pub ForEachUnder : {O : Type 0} → (s : Sight O) (told : State → List Ranked → Type 0) → Type 0
ForEachUnder s told = (st : State) (lib : List Ranked) → Suits s st lib → told st lib

-- the commands give these replies, and with what the run keeps aside the state shows the library after them
pub record IsApplied {O : Type 0} (s : Sight O) (st : State) (lib : List Ranked) (commands : List Command) (replies : List Reply)
    : Type 0 where
  pub next : List Ranked
  pub applied : apply s.setting lib commands ≡ Ok (record { library = next; replies = replies })
  pub shows : Shows s.setting.slots (after s st) next

-- the commands are within the limits of the prelude
abbrev pub Fit : {O : Type 0} → Sight O → List Command → Type 0
Fit s commands = All (CommandFits s.setting.prelude) commands

-- a run that has seen this does what its note says. Its commands are done, and an edit writes; or they are refused, and nothing is
-- written; or the library is the one that was looked at, in order, and nothing is written
abbrev pub DoesAsSaid : {O : Type 0} → Sight O → Note → Type 0
DoesAsSaid s (Done commands replies) =
    Fit s commands.value × (s.writes ≡ [] → has_edit commands.value ≡ false)
    × ForEachUnder s (λ st lib. IsApplied s st lib commands.value replies.value)
DoesAsSaid s (Refused commands refused) =
    Fit s commands.value × (s.writes ≡ []) × ForEachUnder s (λ st lib. apply s.setting lib commands.value ≡ Err refused.value)
DoesAsSaid s (Looked library) =
    (library.value.setting ≡ s.setting) × (s.writes ≡ []) × ForEachUnder s (λ st lib. ShowsInOrder lib library.value.entries)

-- what a run has seen that knows these ranges, with its reads and writes. What it took of the store and staged is no matter here
abbrev pub sight_over : Given → List Range → Pairs → Pairs → Sight (Unit {0})
sight_over g ranges reads writes =
    record {
      origin = tt;
      setting = setting_given g;
      may_write = true;
      may_stage = true;
      ranges = ranges;
      reads = reads;
      writes = writes;
      taken = 0;
      room = most_words;
      staged = empty;
      halted = None;
      full = false;
    }

-- the transaction with these reads, writes and note is lawful for these ranges
abbrev pub Lawful : Given → List Range → Pairs → Pairs → Note → Type 0
Lawful g ranges reads writes note = DoesAsSaid (sight_over g ranges reads writes) note

-- the terms of words that hold a library
abbrev pub library_terms : Terms Given Note
library_terms = record { lawful = Lawful; opens = OpensWell; ranged = λ g c. is_ranged g.slots c }
