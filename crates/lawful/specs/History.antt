-- The history of commands and replies in what was seen of the words; when a call agrees with it, and what is promised of it.
use Rattle.std.specs.Prelude.{◌≡◌, ◌≢◌, ℕ, suc, ◌≤◌, List, [], ◌∷◌, Option, Some, None, All, length, slice_get, slice_index}
use Rattle.library.specs.declared.library.Ranked.{Ranked}
use Rattle.library.specs.Library.{Verifies}
use Rattle.library.specs.Histories.{Entry, open_entry, void_entry, done_entry, EntriesFit, after_front, IsLegal}
use Rattle.library.specs.Agrees.{Agrees, committed, read, refused, snapshot}
use Rattle.tlcore.specs.History.{WordsEntry, deed, value_after}
use Rattle.tlcore.specs.declared.entries.Status.{Status}
use Rattle.tlcore.specs.declared.entries.Status.TheVariants as status
use Rattle.tlwords.specs.Seen.{Seen, Work, Call, Committed, Answered, IsDone, IsSettled}
use Rattle.tlwords.specs.Commits.{IsVoid}
use Rattle.cells.specs.State.{State}
use Rattle.cells.specs.Shows.{Shows}
use Rattle.lawful.specs.declared.notes.Given.{Given}
use Rattle.lawful.specs.declared.notes.Note.{Note}
use Rattle.lawful.specs.declared.notes.Note.TheVariants.{Done, Refused, Looked}
use Rattle.lawful.specs.Lawful.{setting_given, first_library}

-- ---- the history

-- the entry of a transaction that wrote, by its note, which says of a lawful one that its commands are done
abbrev pub entry_noted : Option Note → Entry
entry_noted (Some (Done commands replies)) = done_entry commands.value replies.value
entry_noted _ = open_entry

abbrev pub entry_of : Status → Option Note → Entry
entry_of status.Open _ = open_entry
entry_of status.Void _ = void_entry
entry_of status.Done told = entry_noted told

-- each entry with the note of the same number
abbrev pub entries_of : List WordsEntry → List Note → List Entry
entries_of [] notes = []
entries_of (e ∷ es) [] = entry_of e.status None ∷ entries_of es []
entries_of (e ∷ es) (note ∷ notes) = entry_of e.status (Some note) ∷ entries_of es notes

-- the history of commands and replies
abbrev pub history_of : Seen Note → List Entry
history_of seen = entries_of seen.history seen.notes

-- ---- fronts

-- the library after the first k entries
abbrev pub library_after : Given → Seen Note → ℕ → List Ranked
library_after g seen k = after_front (setting_given g) (first_library g) (history_of seen) k

-- the cells after the first k entries, from their opening values, with all ranges that were seen
abbrev pub state_after : List ℕ → Seen Note → ℕ → State
state_after base seen k = record { value = λ c. value_after (deed seen.history c) (slice_index base c) k; ranges = seen.ranges }

-- ---- calls

-- the transaction with this note committed with this number
abbrev pub CommitAgrees : Given → List Entry → ℕ → Note → Type 0
CommitAgrees g h n (Done commands replies) = Agrees (setting_given g) (first_library g) h commands.value (committed n replies.value)
CommitAgrees g h n _ = ⊥

-- the transaction with this note wrote nothing: it read, was refused, or looked at the whole library, after the first k entries
abbrev pub AnswerAgrees : Given → List Entry → ℕ → Note → Type 0
AnswerAgrees g h k (Done commands replies) = Agrees (setting_given g) (first_library g) h commands.value (read k replies.value)
AnswerAgrees g h k (Refused commands reason) = Agrees (setting_given g) (first_library g) h commands.value (refused k reason.value)
AnswerAgrees g h k (Looked library) =
    (library.value.setting ≡ setting_given g) × Agrees (setting_given g) (first_library g) h [] (snapshot k library.value.entries)

-- a call agrees with the history: what its note tells is so of it
abbrev pub NoteAgrees : Given → List Entry → Call Note → Type 0
NoteAgrees g h (Committed n work) = CommitAgrees g h n work.note
NoteAgrees g h (Answered k work) = AnswerAgrees g h k work.note

abbrev pub AllAgree : Given → List Entry → List (Call Note) → Type 0
AllAgree g h calls = All (NoteAgrees g h) calls

-- ---- what was seen of words that hold a library

-- the history is one of the library, and tells of each entry of the words
pub record IsHistoryOf (g : Given) (base : List ℕ) (seen : Seen Note) : Type 0 where
  -- each done entry has the replies of the definition of transactions, from the library at the opening, and commands within the limits
  pub legal : IsLegal (setting_given g) (first_library g) (history_of seen)
  pub fit : EntriesFit (setting_given g).prelude (history_of seen)
  -- the library after each front verifies, and the cells after it show it
  pub verify : (k : ℕ) → Verifies (setting_given g) (library_after g seen k)
  pub show : (k : ℕ) → k ≤ length seen.history → Shows g.slots (state_after base seen k) (library_after g seen k)
  -- a Done entry is done with what its note tells, a Void one is void, and what is settled is so here
  pub done : (i : ℕ) (work : Work Note) → IsDone seen i work → CommitAgrees g (history_of seen) (suc i) work.note
  pub void : (i : ℕ) → IsVoid seen i → slice_get (history_of seen) i ≡ Some void_entry
  pub settled : (i : ℕ) → IsSettled seen.history i → slice_get (history_of seen) i ≢ Some open_entry
