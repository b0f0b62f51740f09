-- Which cells a transaction may read, and which it may write, where the cells show a library; and that what a try tells of
-- cells is of these.
use Rattle.std.specs.Prelude.{◌≡◌, ◌⊎◌, ℕ, suc, List, [], ◌∷◌, ◌++◌, Some, Ok}
use Rattle.library.specs.declared.library.Ranked.{Ranked}
use Rattle.library.specs.declared.command.Command.{Command}
use Rattle.library.specs.declared.command.Reply.{Reply}
use Rattle.library.specs.Library.{Setting}
use Rattle.library.specs.Edits.{edit}
use Rattle.ranges.specs.Pairs.{Pairs, written}
use Rattle.ranges.specs.Ranges.{AreOfOneStore}
use Rattle.cells.specs.State.{State, with_writes, most_words}
use Rattle.cells.specs.Shows.{Shows}
use Rattle.groundwork.specs.Touches.{Touches}
use Rattle.groundwork.specs.Footprints.{IsReadBy}
use Rattle.tlcore.specs.History.{deed, Did}
use Rattle.tlwords.specs.Seen.{Seen, SeenGrows}
use Rattle.lawful.specs.declared.notes.Given.{Given}
use Rattle.lawful.specs.declared.notes.Note.{Note}
use Rattle.lawful.specs.Lawful.{setting_given}
use Rattle.lawful.specs.History.{library_after, state_after, IsHistoryOf}
use Rattle.transaction.specs.declared.outcome.Outcome.{Outcome}
use Rattle.transaction.specs.declared.outcome.Outcome.TheVariants as outcome

-- ---- over cells that show a library

-- a value is kept aside for the cell
abbrev pub IsAside : Pairs → ℕ → Type 0
IsAside aside cell = (v : ℕ) × (written cell aside ≡ Some v)

module _ (s : Setting) (st : State) where
  -- over what is kept aside by then, with which the cells show the library, the command is done: it keeps values aside for no further cells
  -- but those that it touches, and with them the cells show the library as it is then
  pub record IsCommandDone (aside : Pairs) (lib : List Ranked) (c : Command) (now : Pairs) (next : List Ranked) : Type 0 where
    pub reply : Reply
    pub edits : edit s lib c ≡ Ok (record { library = next; reply = reply })
    pub keeps : (cell : ℕ) → IsAside now cell → IsAside aside cell ⊎ Touches s.slots (with_writes st aside) lib c cell
    pub shows : Shows s.slots (with_writes st now) next

  -- so are the commands, one after another
  abbrev pub AreDone : Pairs → List Ranked → List Command → Pairs → List Ranked → Type 0
  AreDone aside lib [] now next = (now ≡ aside) × (next ≡ lib)
  AreDone aside lib (c ∷ cs) now next =
      (mid : Pairs) × (between : List Ranked) × IsCommandDone aside lib c mid between × AreDone mid between cs now next

  -- of one of the commands this is so, once those before it are done
  pub record OfOne (told : State → List Ranked → Command → Type 0) (lib : List Ranked) (cs : List Command) : Type 0 where
    pub before : List Command
    pub one : Command
    pub behind : List Command
    pub all : cs ≡ before ++ one ∷ behind
    pub aside : Pairs
    pub next : List Ranked
    pub done : AreDone [] lib before aside next
    pub so : told (with_writes st aside) next one

  -- the transaction may read the cell, where the cells show the library: one of its commands may
  abbrev pub MayRead : List Ranked → List Command → ℕ → Type 0
  MayRead lib cs cell = OfOne (λ now next c. IsReadBy s.slots now next c cell) lib cs

  -- it may write the cell
  abbrev pub MayWrite : List Ranked → List Command → ℕ → Type 0
  MayWrite lib cs cell = OfOne (λ now next c. Touches s.slots now next c cell) lib cs

-- ---- over a history

module _ (g : Given) (base : List ℕ) (seen : Seen Note) where
  -- the transaction may read the cell, over the library after the first k entries
  abbrev pub MayReadAfter : ℕ → List Command → ℕ → Type 0
  MayReadAfter k cs cell = MayRead (setting_given g) (state_after base seen k) (library_after g seen k) cs cell

  -- it may write the cell
  abbrev pub MayWriteAfter : ℕ → List Command → ℕ → Type 0
  MayWriteAfter k cs cell = MayWrite (setting_given g) (state_after base seen k) (library_after g seen k) cs cell

  -- the entry of the number wrote no cells but those that the transaction may write, over the library before it
  abbrev pub WritesWithin : ℕ → List Command → Type 0
  WritesWithin number cs = (i cell v : ℕ) → number ≡ suc i → deed seen.history cell i ≡ Did v → MayWriteAfter i cs cell

  -- the cell of a conflict is one that the transaction may read, over the library at its place; and a Committed wrote within what it may
  abbrev pub IsWithin : List Command → Outcome → Type 0
  IsWithin cs (outcome.Conflict place cell word before) = MayReadAfter place cs cell
  IsWithin cs (outcome.Committed number replies) = WritesWithin number cs
  IsWithin cs _ = Unit {0}

-- a later history of the library, whose ranges are of one store
pub record IsLaterHistory (g : Given) (base : List ℕ) (old new : Seen Note) : Type 0 where
  pub grows : SeenGrows old new
  pub history : IsHistoryOf g base new
  pub store : AreOfOneStore most_words new.ranges

-- so of what was seen then, and of each later history
abbrev pub StaysWithin : Given → List ℕ → Seen Note → List Command → Outcome → Type 0
StaysWithin g base old cs o = (new : Seen Note) → IsLaterHistory g base old new → IsWithin g base new cs o
