-- A transaction: all its commands in order, or, from the first refusal on, none of them.
use Rattle.std.specs.Prelude.{◌≡◌, ℕ, ◌+◌, Bool, nat_lt, length, List, [], ◌∷◌, Result, Ok, Err}
use Rattle.std.specs.List.{list_any}
use Rattle.library.specs.declared.library.Ranked.{Ranked}
use Rattle.library.specs.declared.command.Command.{Command}
use Rattle.library.specs.declared.command.Reply.{Reply}
use Rattle.library.specs.declared.reason.Reason.{Reason}
use Rattle.library.specs.declared.reason.Refused.{Refused}
use Rattle.library.specs.Library.{Setting}
use Rattle.library.specs.Edits.{Edited, edit, is_edit}

-- the most commands of a transaction
abbrev pub most_commands : ℕ
most_commands = 16

-- a transaction with more
abbrev pub has_too_many : List Command → Bool
has_too_many cs = nat_lt most_commands (length cs)

-- a transaction that changes the library where it is not refused: some command is an edit
abbrev pub has_edit : List Command → Bool
has_edit cs = list_any is_edit cs

-- a library with a reply for each command
pub record Applied : Type 0 where
  pub library : List Ranked
  pub replies : List Reply

abbrev pub with_reply : Reply → Result Applied Refused → Result Applied Refused
with_reply reply (Ok a) = Ok (record { library = a.library; replies = reply ∷ a.replies })
with_reply reply (Err r) = Err r

-- a command that is the n-th of its transaction, and the rest behind it
abbrev pub then_apply : ℕ → Result Edited Reason → (List Ranked → Result Applied Refused) → Result Applied Refused
then_apply n (Ok e) rest = with_reply e.reply (rest e.library)
then_apply n (Err reason) rest = Err (record { index = n; reason = reason })

-- the commands of a transaction from the n-th on
unfoldable pub apply_from : Setting → ℕ → List Ranked → List Command → Result Applied Refused
apply_from s n lib [] = Ok (record { library = lib; replies = [] })
apply_from s n lib (c ∷ cs) = then_apply n (edit s lib c) (λ next. apply_from s (n + 1) next cs)

-- the library and the replies after the commands, or the first that is refused, counted from 1, with its reason
abbrev pub apply : Setting → List Ranked → List Command → Result Applied Refused
apply s lib cs = apply_from s 1 lib cs

-- a transaction isn't refused, and these are its replies
abbrev pub HasReplies : Setting → List Ranked → List Command → List Reply → Type 0
HasReplies s lib cs replies = (next : List Ranked) × (apply s lib cs ≡ Ok (record { library = next; replies = replies }))

-- the library after a transaction: as it was where the transaction is refused
abbrev pub library_of : List Ranked → Result Applied Refused → List Ranked
library_of lib (Ok a) = a.library
library_of lib (Err r) = lib
