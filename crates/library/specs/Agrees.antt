-- What is told of a transaction, and when it agrees with a history. No editor and no memory is named here.
use Rattle.std.specs.Prelude.{◌≡◌, ◌+◌, ◌≤◌, ℕ, List, length, slice_get, Some, Ok, Err}
use Rattle.library.specs.declared.library.Ranked.{Ranked}
use Rattle.library.specs.declared.command.Command.{Command}
use Rattle.library.specs.declared.command.Reply.{Reply}
use Rattle.library.specs.declared.reason.Refused.{Refused}
use Rattle.library.specs.Library.{Setting, ShowsInOrder}
use Rattle.library.specs.Transactions.{apply}
use Rattle.library.specs.Histories.{Entry, done_entry, after_front, IsSettledBefore}

-- what is told: the transaction committed with number n, with these replies; it only read, or was refused, at place k, which is over the
-- library after the first k entries; or these are the assertions of the library there
pub data Answer : Type 0 where
  committed : ℕ → List Reply → Answer
  read : ℕ → List Reply → Answer
  refused : ℕ → Refused → Answer
  snapshot : ℕ → List Ranked → Answer

-- the transaction with number n is entry n, with the call's commands and replies
abbrev pub IsEntry : List Entry → ℕ → List Command → List Reply → Type 0
IsEntry h n cs replies = (i : ℕ) × (n ≡ i + 1) × (slice_get h i ≡ Some (done_entry cs replies))

-- over a library the definition of transactions answers these replies, and leaves the library as it was
abbrev pub ReadsOver : Setting → List Ranked → List Command → List Reply → Type 0
ReadsOver s lib cs replies = apply s lib cs ≡ Ok (record { library = lib; replies = replies })

-- what is told of a call with these commands is so in a history from this opening library
abbrev pub Agrees : Setting → List Ranked → List Entry → List Command → Answer → Type 0
Agrees s lib0 h cs (committed n replies) = IsEntry h n cs replies
Agrees s lib0 h cs (read k replies) = (k ≤ length h) × ReadsOver s (after_front s lib0 h k) cs replies
Agrees s lib0 h cs (refused k reason) = (k ≤ length h) × (apply s (after_front s lib0 h k) cs ≡ Err reason)
Agrees s lib0 h cs (snapshot k entries) = (k ≤ length h) × ShowsInOrder (after_front s lib0 h k) entries

-- the entries whose library an answer tells of are settled: those below its place. A committed one tells of its own entry alone
abbrev pub IsSettledBelow : List Entry → Answer → Type 0
IsSettledBelow h (committed n replies) = Unit {0}
IsSettledBelow h (read k replies) = IsSettledBefore k h
IsSettledBelow h (refused k reason) = IsSettledBefore k h
IsSettledBelow h (snapshot k entries) = IsSettledBefore k h
