-- Histories: the transactions that drew a number, in order of number; and the library after a front of one.
use Rattle.std.specs.Prelude.{◌≡◌, ◌≢◌, ◌<◌, ◌≤◌, ℕ, List, [], ◌∷◌, length, take, slice_get, All, Some}
use Rattle.library.specs.declared.library.Ranked.{Ranked}
use Rattle.library.specs.declared.command.Command.{Command}
use Rattle.library.specs.declared.command.Reply.{Reply}
use Rattle.mmsyntax.specs.Tables.{Tables}
use Rattle.library.specs.Library.{Setting, Listed, ShowsInOrder}
use Rattle.library.specs.Fitting.{CommandFits}
use Rattle.library.specs.Transactions.{apply, HasReplies, library_of}
use Rattle.library.specs.declared.history.Entry.{Entry as CodeEntry}
use Rattle.library.specs.declared.history.Entry.TheVariants.{Void, Done}

-- an entry: its number was drawn and nobody knows yet what becomes of it; or it holds no commands; or it is done, with its commands and
-- their replies. The n-th entry of a history has the number n
pub data Entry : Type 0 where
  open_entry : Entry
  void_entry : Entry
  done_entry : List Command → List Reply → Entry

-- the commands of a done entry are within the limits of a prelude
abbrev pub EntryFits : Tables → Entry → Type 0
EntryFits t open_entry = Unit {0}
EntryFits t void_entry = Unit {0}
EntryFits t (done_entry cs replies) = All (CommandFits t) cs

-- those of each done entry are
abbrev pub EntriesFit : Tables → List Entry → Type 0
EntriesFit t h = All (EntryFits t) h

-- the library after one entry
abbrev pub after_entry : Setting → List Ranked → Entry → List Ranked
after_entry s lib (done_entry cs replies) = library_of lib (apply s lib cs)
after_entry s lib _ = lib

-- the library after all entries, in order
abbrev pub after_all : Setting → List Ranked → List Entry → List Ranked
after_all s lib [] = lib
after_all s lib (e ∷ es) = after_all s (after_entry s lib e) es

-- the library after the first k entries, which are a front of the history
abbrev pub after_front : Setting → List Ranked → List Entry → ℕ → List Ranked
after_front s lib h k = after_all s lib (take k h)

-- none of the first k entries is open
abbrev pub IsSettledBefore : ℕ → List Entry → Type 0
IsSettledBefore k h = (i : ℕ) → i < k → slice_get h i ≢ Some open_entry

-- a later history of the same run: at least as long, and what was settled stays
pub record Grows (g h : List Entry) : Type 0 where
  pub longer : length g ≤ length h
  pub kept : (i : ℕ) (e : Entry) → slice_get g i ≡ Some e → e ≢ open_entry → slice_get h i ≡ Some e

-- an entry's replies are the editor's, where it holds commands
abbrev pub IsRepeated : Setting → List Ranked → Entry → Type 0
IsRepeated s lib (done_entry cs replies) = HasReplies s lib cs replies
IsRepeated s lib _ = Unit {0}

-- each done entry's replies are the one-thread editor's, from the library after the entries before it
abbrev pub IsLegal : Setting → List Ranked → List Entry → Type 0
IsLegal s lib0 h =
    (i : ℕ) (cs : List Command) (replies : List Reply) → slice_get h i ≡ Some (done_entry cs replies)
    → HasReplies s (after_front s lib0 h i) cs replies

-- the library, in export order, after all of a history that is legal from an opening library
pub record IsAfterHistory (s : Setting) (lib0 : List Ranked) (h : List Entry) (library : Listed) : Type 0 where
  pub setting : library.setting ≡ s
  pub legal : IsLegal s lib0 h
  pub shows : ShowsInOrder (after_all s lib0 h) library.entries

-- ---- the entries that the program keeps, none of which is open

abbrev pub seen_entry : CodeEntry → Entry
seen_entry Void = void_entry
seen_entry (Done commands replies) = done_entry commands replies
