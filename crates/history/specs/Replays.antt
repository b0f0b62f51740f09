-- When a history is replayed, to which library, and which entry is the first that differs.
use Rattle.std.specs.Prelude.{◌≡◌, ◌≢◌, ◌+◌, ◌<◌, ◌≤◌, ℕ, List, length, take, slice_get, Some, Result, Ok, Err}
use Rattle.mmsyntax.specs.Tables.{Contents}
use Rattle.library.specs.declared.library.Ranked.{Ranked}
use Rattle.library.specs.declared.command.Command.{Command}
use Rattle.library.specs.declared.command.Reply.{Reply}
use Rattle.library.specs.Library.{Setting, setting_over, Listed, opening}
use Rattle.library.specs.Transactions.{apply}
use Rattle.history.specs.declared.editor.OpenError.{OpenError}
use Rattle.history.specs.declared.editor.OpenError.TheVariants as opening_error
use Rattle.history.specs.declared.replaying.ReplayError.{ReplayError}
use Rattle.history.specs.declared.replaying.ReplayError.TheVariants.{Differs, TooMany, NoMemory}
use Rattle.library.specs.Histories.{Entry, done_entry, after_front, IsLegal, IsAfterHistory}

-- the first entry whose replies aren't the editor's: those before it are legal, and its transaction is refused, or has other replies
pub record IsFirstDiffering (s : Setting) (lib0 : List Ranked) (h : List Entry) (n : ℕ) : Type 0 where
  pub place : ℕ
  pub counted : n ≡ place + 1
  pub before : IsLegal s lib0 (take place h)
  pub commands : List Command
  pub replies : List Reply
  pub stands : slice_get h place ≡ Some (done_entry commands replies)
  pub differs : (next : List Ranked) → apply s (after_front s lib0 h place) commands ≢ Ok (record { library = next; replies = replies })

-- the error of a replay whose editor isn't opened
abbrev pub unopened : OpenError → ReplayError
unopened opening_error.TooMany = TooMany
unopened opening_error.NoMemory = NoMemory

-- a history that is legal from the opening of the database, with the library after it in export order; or the first entry that differs
abbrev pub Replays : Contents → ℕ → List Entry → Result Listed ReplayError → Type 0
Replays db slots h (Ok library) = (length db.assertions ≤ slots) × IsAfterHistory (setting_over db slots) (opening db) h library
Replays db slots h (Err (Differs n)) = IsFirstDiffering (setting_over db slots) (opening db) h n
Replays db slots h (Err TooMany) = slots < length db.assertions
Replays db slots h (Err NoMemory) = Unit {0}
